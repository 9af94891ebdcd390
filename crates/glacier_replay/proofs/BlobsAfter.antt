-- What there is for the blobs that an account names, when an event makes its body's blob and frees others.
use Rattle.std.specs.Prelude.{◌≡◌, ◌⊎◌, ℕ, ◌≤◌, Bool, true, false, cond, ◌&&◌, List, Some, None, is_some}
use Rattle.std.specs.Cmp.{nat_cmp_total, eq_by_cmp_equiv}
use Rattle.std.specs.Cmp.Lexicographic.{nat_list_cmp_total}
use Rattle.std.specs.FinMap as map
use Rattle.std.specs.List.{list_any}
use Rattle.std.specs.Ordering.{nat_cmp, eq_by_cmp}
use Rattle.std.proofs.Common.{sym, ◌∙◌, ap, subst, refl, arith, inl, inr}
use Rattle.std.proofs.Math.Bool.{and-false}
use Rattle.glacier_bodies.specs.Stands.{ByBlob, at_blob}
use Rattle.glacier_vault.specs.Freed.{times_in, FreesJust}
use Rattle.glacier_vault.specs.Lawful.{IsLawful}
use Rattle.glacier_vault.specs.Totals.{times_named}
use Rattle.glacier_vault.specs.declared.event.Event.{Event}
use Rattle.glacier_vault.specs.declared.state.AccountState.{AccountState}
use Rattle.glacier_vault.specs.Accounts.{Accounts, account_in}
use Rattle.glacier_replay.specs.Changes.{body_in, new_blob, with_new, change_in, blobs_after}
use Rattle.glacier_replay.specs.Replayed.{after_event}
use Rattle.glacier_replay.proofs.BlobMaps.{account_is, at_new, at_without_blobs, is_account, is_among, is_new, new_is, was_there}
use Rattle.glacier_replay.proofs.CounterLemmas.{of_replayed}
use Rattle.glacier_replay.proofs.FreesLemmas.{frees}
use Rattle.glacier_replay.proofs.HeldLemmas.{elsewhere}
use Rattle.glacier_replay.proofs.SettledLemmas.{account_after}
use Rattle.glacier_replay.proofs.ToldLemmas.{any_none, none_any}

module _ {X : Type 0} (accounts : Accounts) (blobs : ByBlob X) (account : List ℕ) (lawful : IsLawful (account_in accounts account)) (m : ℕ) (event : Event) (x : X)
    (done : AccountState × List ℕ) (done_is : change_in accounts account m event ≡ Some done) where
  abbrev before : AccountState
  before = account_in accounts account

  abbrev pub with_body : ByBlob X
  with_body = with_new blobs account (new_blob before.counter event x)

  abbrev pub after : ByBlob X
  after = blobs_after blobs account (new_blob before.counter event x) (Some done)

  pub fits : after_event before m event ≡ Some done
  fits = (of_replayed before m event done done_is).1

  just : FreesJust before done.0 done.1
  just = (frees before m lawful done event fits).just

  -- a blob that is named isn't the new one
  pub kept : (n : ℕ) → 1 ≤ times_named n before.vaults → at_blob with_body account n ≡ at_blob blobs account n
  kept n named = at_new account account n blobs before.counter event x ∙ at (is_new account before.counter event account n) refl
    where
      at : (b : Bool) → is_new account before.counter event account n ≡ b → cond b (Some x) (at_blob blobs account n) ≡ at_blob blobs account n
      at true t =
          let here = new_is account before.counter event account n t in
          absurd (omega (arith, named, (lawful.blobs n).drawn (omega (arith, here.2))))
      at false t = refl

  -- and one that is named after the event isn't freed
  not_freed : (n : ℕ) → 1 ≤ times_named n done.0.vaults → list_any (eq_by_cmp nat_cmp n) done.1 ≡ false
  not_freed n named = none_any n done.1 (omega (arith, just n, (lawful.blobs n).once, named))

  pub stays : (n : ℕ) → 1 ≤ times_named n done.0.vaults → at_blob after account n ≡ at_blob with_body account n
  stays n named =
      at_without_blobs account account n with_body done.1
      ∙ ap (λ b. cond (is_account account account && b) None (at_blob with_body account n)) (not_freed n named)
      ∙ ap (λ b. cond b None (at_blob with_body account n)) (and-false (is_account account account))

  pub new_here : is_some (body_in event) ≡ true → at_blob with_body account before.counter ≡ Some x
  new_here some =
      at_new account account before.counter blobs before.counter event x
      ∙ ap (λ b. cond (b && (is_account account account && eq_by_cmp nat_cmp before.counter before.counter)) (Some x) (at_blob blobs account before.counter)) some
      ∙ ap (λ b. cond (b && eq_by_cmp nat_cmp before.counter before.counter) (Some x) (at_blob blobs account before.counter)) ((eq_by_cmp_equiv nat_list_cmp_total).refl account)
      ∙ ap (λ b. cond b (Some x) (at_blob blobs account before.counter)) ((eq_by_cmp_equiv nat_cmp_total).refl before.counter)

  -- of another account all stay
  pub others_stay : (other : List ℕ) → is_account account other ≡ false → (n : ℕ) → at_blob after other n ≡ at_blob blobs other n
  others_stay other apart n = elsewhere account other n blobs before.counter event x done apart

  -- what is known of this account afterwards, and of each other, is known of each
  pub of_each : (P : List ℕ → AccountState → Type 0) → P account done.0 → ((other : List ℕ) → is_account account other ≡ false → P other (account_in accounts other))
      → (other : List ℕ) → P other (account_in (map.insert accounts account done.0) other)
  of_each P here there other = subst (λ (s : AccountState). P other s) (sym (account_after accounts account done.0 other)) (at (is_account account other) refl)
    where
      at : (b : Bool) → is_account account other ≡ b → P other (cond b done.0 (account_in accounts other))
      at true t = subst (λ (k : List ℕ). P k done.0) (sym (account_is account other t)) here
      at false t = there other t

  module _ (all_named : (a : List ℕ) (n : ℕ) (y : X) → at_blob blobs a n ≡ Some y → 1 ≤ times_named n (account_in accounts a).vaults) where
    named_here : (n : ℕ) (y : X) → at_blob after account n ≡ Some y → 1 ≤ times_named n done.0.vaults
    named_here n y there = at (was_there account account n blobs before.counter event x y done there)
      where
        none_freed : is_among account done.1 account n ≡ false → times_in n done.1 ≡ 0
        none_freed out = any_none n done.1 (sym (ap (λ b. b && list_any (eq_by_cmp nat_cmp n) done.1) ((eq_by_cmp_equiv nat_list_cmp_total).refl account)) ∙ out)

        at : (is_among account done.1 account n ≡ false) × (((is_new account before.counter event account n ≡ true) × (y ≡ x)) ⊎ ((is_new account before.counter event account n ≡ false) × (at_blob blobs account n ≡ Some y))) → 1 ≤ times_named n done.0.vaults
        at (out, inl mine) =
            let here = new_is account before.counter event account n mine.0 in
            subst (λ (k : ℕ). 1 ≤ times_named k done.0.vaults) (sym here.2) ((frees before m lawful done event fits).named here.0)
        at (out, inr old) = omega (arith, just n, none_freed out, all_named account n y old.1)

    -- where an account names each of its blobs, it does so after the event
    pub named_after : (a : List ℕ) (n : ℕ) (y : X) → at_blob after a n ≡ Some y → 1 ≤ times_named n (account_in (map.insert accounts account done.0) a).vaults
    named_after a = of_each (λ a s. (n : ℕ) (y : X) → at_blob after a n ≡ Some y → 1 ≤ times_named n s.vaults) named_here
        (λ other apart n y there. all_named other n y (sym (others_stay other apart n) ∙ there)) a
