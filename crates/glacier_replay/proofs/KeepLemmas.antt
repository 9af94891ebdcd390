-- The accounts tell the bytes of their blobs after an event too, and what its record makes is the state after it.
use Rattle.std.specs.Prelude.{◌≡◌, ℕ, false, ◌&&◌, List, [], ◌∷◌, Option, Some, None, IfSome, is_some, length, nat_eq, nat_le}
use Rattle.std.specs.FinMap as map
use Rattle.std.proofs.Common.{sym, ap, refl}
use Rattle.std.proofs.lemmas.Bool.{eqb-true}
use Rattle.glacier_bodies.specs.Stands.{Bodies}
use Rattle.glacier_treehash.specs.Leaves.{leaves_of}
use Rattle.glacier_vault.specs.Lawful.{IsLawful}
use Rattle.glacier_vault.specs.PartSizes.{last_index}
use Rattle.glacier_vault.specs.Totals.{need}
use Rattle.glacier_vault.specs.declared.event.Event.{Event}
use Rattle.glacier_vault.specs.declared.event.Event.TheVariants as events
use Rattle.glacier_vault.specs.declared.state.AccountState.{AccountState}
use Rattle.glacier_vault.specs.Accounts.{Accounts, account_in}
use Rattle.glacier_replay.specs.Changes.{IsBodyOf, body_in, new_blob, with_new, change_in, blobs_after}
use Rattle.glacier_replay.specs.Replayed.{after_event, can_draw, is_body}
use Rattle.glacier_replay.specs.Standing.{IsTold, InAccount, Tells}
use Rattle.glacier_replay.proofs.BlobMaps.{is_account}
use Rattle.glacier_replay.proofs.BlobsAfter as blob
use Rattle.glacier_replay.proofs.CounterLemmas.{of_fit, of_there}
use Rattle.glacier_replay.proofs.Seen.{both}
use Rattle.glacier_replay.proofs.ToldLemmas.{told_alone, told_goes, told_same}
use Rattle.glacier_replay.proofs.VaultBodies.{IsNew, told_after}

module _ (accounts : Accounts) (bodies : Bodies) (account : List ℕ) (lawful : IsLawful (account_in accounts account)) (tells : Tells accounts bodies) (m : ℕ) (event : Event) (body : List ℕ)
    (body_is : IsBodyOf event body) (done : AccountState × List ℕ) (done_is : change_in accounts account m event ≡ Some done) where
  abbrev before : AccountState
  before = account_in accounts account

  abbrev pub with_body : Bodies
  with_body = with_new bodies account (new_blob before.counter event body)

  abbrev after : Bodies
  after = blobs_after bodies account (new_blob before.counter event body) (Some done)

  pub told_before : InAccount (IsTold with_body account) before
  told_before = told_goes before (λ size leaves blobs named told. told_same bodies with_body account size leaves blobs
      (λ n among. sym (blob.kept accounts bodies account lawful m event body done done_is n (named n among))) told) (tells.told account)

  pub new_told : IfSome (body_in event) (λ its. IsTold with_body account its.0 its.1 (before.counter ∷ []))
  new_told = at (body_in event) refl body_is
    where
      at : (r : Option (ℕ × List (List ℕ))) → body_in event ≡ r → (elim r as (λ _. Type 0) [ None ↦ body ≡ [] | Some told ↦ (told.0 ≡ length body) × (told.1 ≡ leaves_of body) ])
          → IfSome r (λ its. IsTold with_body account its.0 its.1 (before.counter ∷ []))
      at None e its = tt
      at (Some told) e its = told_alone with_body account told.0 told.1 before.counter body (blob.new_here accounts bodies account lawful m event body done done_is (ap is_some e)) its.0 its.1

  module _ (new : IsNew (IsTold with_body account) before m told_before event) where
    told_here : InAccount (IsTold after account) done.0
    told_here = told_goes done.0 (λ size leaves blobs named told. told_same with_body after account size leaves blobs
        (λ n among. sym (blob.stays accounts bodies account lawful m event body done done_is n (named n among))) told)
        (told_after (IsTold with_body account) before m told_before done event new (blob.fits accounts bodies account lawful m event body done done_is))

    told_there : (other : List ℕ) → is_account account other ≡ false → InAccount (IsTold after other) (account_in accounts other)
    told_there other apart = told_goes (account_in accounts other) (λ size leaves blobs named told. told_same bodies after other size leaves blobs
        (λ n among. sym (blob.others_stay accounts bodies account lawful m event body done done_is other apart n)) told) (tells.told other)

    pub tells_after : Tells (map.insert accounts account done.0) after
    tells_after = record {
      told = blob.of_each accounts bodies account lawful m event body done done_is (λ other state. InAccount (IsTold after other) state) told_here told_there;
      no_other = blob.named_after accounts bodies account lawful m event body done done_is tells.no_other;
    }

-- a body that fits has a leaf for each MiB that it begins
pub leaves_fit : (a : AccountState) (m : ℕ) (event : Event) (p : AccountState × List ℕ) → after_event a m event ≡ Some p → IfSome (body_in event) (λ its. length its.1 ≡ need its.0)
leaves_fit a m (events.Upload name size description leaves) p e = of_fit (λ _. length leaves ≡ need size) p (map.contains_key a.vaults name && is_body size leaves && can_draw a) _ e (λ fits.
    eqb-true (length leaves) (need size) (both (nat_le 1 size) (nat_eq (length leaves) (need size)) (both (map.contains_key a.vaults name) (is_body size leaves) (both (map.contains_key a.vaults name && is_body size leaves) (can_draw a) fits).0).1).1)
leaves_fit a m (events.Part name upload index size leaves) p e = of_there (λ _. length leaves ≡ need size) p (map.get a.vaults name) _ e (λ vault there next. of_there (λ _. length leaves ≡ need size) p (map.get vault.uploads upload) _ next (λ found is_open last.
    of_fit (λ _. length leaves ≡ need size) p (nat_le index last_index && nat_le size found.part_size && is_body size leaves && can_draw a) _ last (λ fits.
    eqb-true (length leaves) (need size) (both (nat_le 1 size) (nat_eq (length leaves) (need size)) (both (nat_le index last_index && nat_le size found.part_size) (is_body size leaves) (both (nat_le index last_index && nat_le size found.part_size && is_body size leaves) (can_draw a) fits).0).1).1)))
leaves_fit a m events.Pass p e = tt
leaves_fit a m (events.CreateVault name) p e = tt
leaves_fit a m (events.DeleteVault name) p e = tt
leaves_fit a m (events.DeleteArchive name archive) p e = tt
leaves_fit a m (events.BeginUpload name part_size description) p e = tt
leaves_fit a m (events.Complete name upload) p e = tt
leaves_fit a m (events.Abort name upload) p e = tt
leaves_fit a m (events.BeginRetrieval name archive first end tier ready description) p e = tt
leaves_fit a m (events.BeginInventory name csv tier ready description) p e = tt
leaves_fit a m (events.InitiateLock name policy) p e = tt
leaves_fit a m (events.CompleteLock name) p e = tt
leaves_fit a m (events.AbortLock name) p e = tt
