-- The blobs of a held archive stay, of whatever account an event is.
use Rattle.std.specs.Prelude.{◌≡◌, ℕ, ◌≤◌, Bool, true, false, cond, ◌&&◌, List, Some, None}
use Rattle.std.specs.Cmp.{nat_cmp_total}
use Rattle.std.specs.Cmp.Lexicographic.{nat_list_cmp_total}
use Rattle.std.specs.FinMap as map
use Rattle.std.proofs.Common.{◌∙◌, ap, sym, refl, subst, arith}
use Rattle.std.proofs.Math.Bool.{and-false}
use Rattle.glacier_base.proofs.Finite.{bytes_cmp-IsAntisymmetric}
use Rattle.glacier_bodies.specs.Stands.{ByBlob, at_blob}
use Rattle.glacier_vault.specs.Freed.{times_in}
use Rattle.glacier_vault.specs.Lawful.{IsLawful}
use Rattle.glacier_vault.specs.Totals.{naming, times_named, vault_total}
use Rattle.glacier_vault.specs.declared.archive.Archive.{Archive}
use Rattle.glacier_vault.specs.declared.event.Event.{Event}
use Rattle.glacier_vault.specs.declared.state.AccountState.{AccountState}
use Rattle.glacier_vault.specs.Accounts.{Accounts, account_in}
use Rattle.glacier_replay.specs.Changes.{accounts_after, blobs_after, change_in, new_blob}
use Rattle.glacier_replay.specs.Held.{AreKept, HeldStays, held_archive, job_names}
use Rattle.glacier_replay.specs.Replayed.{Replay, after_event}
use Rattle.glacier_replay.proofs.BlobMaps.{account_is, is_account, is_new, new_is}
use Rattle.glacier_replay.proofs.CounterLemmas.{of_replayed}
use Rattle.glacier_replay.proofs.FreesLemmas.{frees}
use Rattle.glacier_replay.proofs.HeldLemmas.{elsewhere, is_there}
use Rattle.glacier_replay.proofs.HeldStays as stays
use Rattle.glacier_replay.proofs.NamedLemmas.{value_within}
use Rattle.glacier_replay.proofs.Seen.{there}
use Rattle.glacier_replay.proofs.SettledLemmas.{account_after}
use Rattle.glacier_replay.proofs.ToldLemmas.{none_any}

-- an account names the blobs of its held archives
held_named : (a : AccountState) (name : List ℕ) (number : ℕ) (archive : Archive) → held_archive a name number ≡ Some archive → (blob : ℕ) → 1 ≤ times_in blob archive.blobs → 1 ≤ times_named blob a.vaults
held_named a name number archive is_held blob among = there a.vaults name (λ vault. map.get vault.held number) archive is_held (1 ≤ times_named blob a.vaults) (λ vault found held.
    omega (
      arith,
      among,
      value_within nat_cmp_total map.nat_cmp-IsAntisymmetric (naming blob).archive vault.held number archive held,
      value_within nat_list_cmp_total bytes_cmp-IsAntisymmetric (vault_total (naming blob)) a.vaults name vault found,
    ))

module _ {X : Type 0} (accounts : Accounts) (blobs : ByBlob X) (account : List ℕ) (m : ℕ) (event : Event) (x : X) (lawful : IsLawful (account_in accounts account)) where
  abbrev before : AccountState
  before = account_in accounts account

  module _ (done : AccountState × List ℕ) (done_is : change_in accounts account m event ≡ Some done) where
    abbrev after : ByBlob X
    after = blobs_after blobs account (new_blob before.counter event x) (Some done)

    fits : after_event before m event ≡ Some done
    fits = (of_replayed before m event done done_is).1

    -- a blob that is named before and after is neither new nor freed
    same : (blob : ℕ) → 1 ≤ times_named blob before.vaults → 1 ≤ times_named blob done.0.vaults → at_blob after account blob ≡ at_blob blobs account blob
    same blob was is = is_there account account blob blobs before.counter event x done false
        (ap (λ b. is_account account account && b) (none_any blob done.1 (omega (arith, (frees before m lawful done event fits).just blob, (lawful.blobs blob).once, is))) ∙ and-false (is_account account account))
        (old (is_new account before.counter event account blob) refl)
      where
        old : (b : Bool) → is_new account before.counter event account blob ≡ b → b ≡ false
        old true t =
            let new = new_is account before.counter event account blob t in
            absurd (omega (arith, was, (lawful.blobs blob).drawn (omega (arith, new.2))))
        old false t = refl

    here : (name : List ℕ) (number : ℕ) (archive : Archive) → held_archive before name number ≡ Some archive → job_names done.0 name number ≡ true
        → (held_archive done.0 name number ≡ Some archive) × AreKept blobs after account archive.blobs
    here name number archive is_held named =
        let still = stays.held_stays before m lawful name number archive is_held done event fits named in
        (still, λ blob among. same blob (held_named before name number archive is_held blob among) (held_named done.0 name number archive still blob among))

    each : (name : List ℕ) (number : ℕ) (archive : Archive) (other : List ℕ) → held_archive (account_in accounts other) name number ≡ Some archive → (b : Bool) → is_account account other ≡ b
        → job_names (cond b done.0 (account_in accounts other)) name number ≡ true
        → (held_archive (cond b done.0 (account_in accounts other)) name number ≡ Some archive) × AreKept blobs after other archive.blobs
    each name number archive other is_held true t named =
        let this : other ≡ account = account_is account other t in
        let kept = here name number archive (ap (λ k. held_archive (account_in accounts k) name number) (sym this) ∙ is_held) named in
        (kept.0, subst (λ (k : List ℕ). AreKept blobs after k archive.blobs) (sym this) kept.1)
    each name number archive other is_held false t named = (is_held, λ blob among. elsewhere account other blob blobs before.counter event x done t)

    of_fitting : HeldStays accounts (map.insert accounts account done.0) blobs after
    of_fitting other name number archive is_held =
        subst (λ (s : AccountState). job_names s name number ≡ true → (held_archive s name number ≡ Some archive) × AreKept blobs after other archive.blobs) (sym (account_after accounts account done.0 other))
        (each name number archive other is_held (is_account account other) refl)

  pub held_stays : HeldStays accounts (accounts_after accounts account (change_in accounts account m event)) blobs (blobs_after blobs account (new_blob before.counter event x) (change_in accounts account m event))
  held_stays = at (change_in accounts account m event) refl
    where
      at : (r : Replay) → change_in accounts account m event ≡ r → HeldStays accounts (accounts_after accounts account r) blobs (blobs_after blobs account (new_blob before.counter event x) r)
      at None e = λ other name number archive is_held named. (is_held, λ blob among. refl)
      at (Some done) e = of_fitting done e
