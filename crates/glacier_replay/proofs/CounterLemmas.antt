-- An event leaves the counter of its account, and one that has a body draws a number.
use Rattle.std.specs.Prelude.{◌≡◌, ℕ, ◌+◌, ◌<◌, ◌≤◌, Bool, true, false, cond, not, ◌&&◌, List, Option, Some, None, is_some, is_none, nat_le, nat_lt}
use Rattle.std.specs.FinMap as map
use Rattle.std.proofs.Common.{refl, arith, subst}
use Rattle.std.proofs.lemmas.Bool.Decides.{nat_tests}
use Rattle.glacier_vault.specs.Deletions.{deletion_refusal}
use Rattle.glacier_vault.specs.PartSizes.{is_part_size, last_index}
use Rattle.glacier_vault.specs.declared.event.Event.{Event}
use Rattle.glacier_vault.specs.declared.event.Event.TheVariants as events
use Rattle.glacier_vault.specs.declared.state.AccountState.{AccountState}
use Rattle.glacier_upload.specs.Completion.{covered, has_gap}
use Rattle.glacier_lock.specs.Locks.{initiate_refusal}
use Rattle.glacier_replay.specs.Changes.{body_in}
use Rattle.glacier_replay.specs.Replayed.{Replay, after_event, can_draw, is_body, policy_or_none, progress_of, replayed, where_fits, with_found}
use Rattle.glacier_replay.proofs.Seen.{fitted}

-- what holds of what an event was to give holds of what it gives
module _ (P : AccountState × List ℕ → Type 0) (p : AccountState × List ℕ) where
  pub of_fit : (b : Bool) (x : AccountState × List ℕ) → where_fits b x ≡ Some p → (b ≡ true → P x) → P p
  of_fit b x e holds = let h = fitted b x p e in subst P h.1 (holds h.0)

  pub of_done : (x : AccountState × List ℕ) → ◌≡◌ {A = Replay} (Some x) (Some p) → P x → P p
  of_done x e holds = let same : x ≡ p = cc in subst P same holds

  pub of_there : {X : Type 0} (r : Option X) (next : X → Replay) → with_found r next ≡ Some p → ((x : X) → r ≡ Some x → next x ≡ Some p → P p) → P p
  of_there None next e f = cc
  of_there (Some x) next e f = f x refl e

-- the counter stays or rises, and rises where the event has a body
pub record Counts (a : AccountState) (body : Bool) (q : AccountState × List ℕ) : Type 0 where
  pub stays : a.counter ≤ q.0.counter
  pub draws : body ≡ true → a.counter < q.0.counter

module _ (a : AccountState) (m : ℕ) (p : AccountState × List ℕ) where
  same : (q : AccountState × List ℕ) → q.0.counter ≡ a.counter → Counts a false q
  same q e = record { stays = omega (arith, e); draws = λ t. cc }

  more : (body : Bool) (q : AccountState × List ℕ) → q.0.counter ≡ a.counter + 1 → Counts a body q
  more body q e = record { stays = omega (arith, e); draws = λ t. omega (arith, e) }

  pub counts : (event : Event) → after_event a m event ≡ Some p → Counts a (is_some (body_in event)) p
  counts events.Pass e = of_done (Counts a false) p _ e (same _ refl)
  counts (events.CreateVault name) e = of_fit (Counts a false) p (not (map.contains_key a.vaults name)) _ e (λ _. same _ refl)
  counts (events.DeleteVault name) e = of_there (Counts a false) p (map.get a.vaults name) _ e (λ vault found next.
      of_fit (Counts a false) p (is_none (deletion_refusal vault)) _ next (λ _. same _ refl))
  counts (events.Upload name size description leaves) e = of_fit (Counts a true) p (map.contains_key a.vaults name && is_body size leaves && can_draw a) _ e (λ _. more true _ refl)
  counts (events.DeleteArchive name archive) e = of_there (Counts a false) p (map.get a.vaults name) _ e (λ vault found next.
      of_fit (Counts a false) p (map.contains_key vault.archives archive) _ next (λ _. same _ refl))
  counts (events.BeginUpload name part_size description) e = of_fit (Counts a false) p (map.contains_key a.vaults name && is_part_size part_size && can_draw a) _ e (λ _. more false _ refl)
  counts (events.Part name upload index size leaves) e = of_there (Counts a true) p (map.get a.vaults name) _ e (λ vault found next. of_there (Counts a true) p (map.get vault.uploads upload) _ next (λ there is_open last.
      of_fit (Counts a true) p (nat_le index last_index && nat_le size there.part_size && is_body size leaves && can_draw a) _ last (λ _. more true _ refl)))
  counts (events.Complete name upload) e = of_there (Counts a false) p (map.get a.vaults name) _ e (λ vault found next. of_there (Counts a false) p (map.get vault.uploads upload) _ next (λ there is_open last.
      of_fit (Counts a false) p (nat_le 1 (covered there) && not (has_gap there) && can_draw a) _ last (λ _. more false _ refl)))
  counts (events.Abort name upload) e = of_there (Counts a false) p (map.get a.vaults name) _ e (λ vault found next. of_there (Counts a false) p (map.get vault.uploads upload) _ next (λ there is_open last.
      of_done (Counts a false) p _ last (same _ refl)))
  counts (events.BeginRetrieval name archive first end tier ready description) e = of_there (Counts a false) p (map.get a.vaults name) _ e (λ vault found next. of_there (Counts a false) p (map.get vault.archives archive) _ next (λ there is_there last.
      of_fit (Counts a false) p (nat_lt first end && nat_le end there.size && can_draw a) _ last (λ _. more false _ refl)))
  counts (events.BeginInventory name csv tier ready description) e = of_fit (Counts a false) p (map.contains_key a.vaults name && can_draw a) _ e (λ _. more false _ refl)
  counts (events.InitiateLock name policy) e = of_there (Counts a false) p (policy_or_none policy) _ e (λ read is_read last.
      of_fit (Counts a false) p (is_none (initiate_refusal a name)) _ last (λ _. more false _ refl))
  counts (events.CompleteLock name) e = of_there (Counts a false) p (progress_of a name) _ e (λ lock progress last. of_done (Counts a false) p _ last (same _ refl))
  counts (events.AbortLock name) e = of_there (Counts a false) p (progress_of a name) _ e (λ lock progress last. of_done (Counts a false) p _ last (same _ refl))

-- a kept event is one whose moment isn't before the last
pub of_replayed : (a : AccountState) (m : ℕ) (event : Event) (p : AccountState × List ℕ) → replayed a m event ≡ Some p → (a.last ≤ m) × (after_event a m event ≡ Some p)
of_replayed a m event p e = at (nat_le a.last m) refl e
  where
    at : (b : Bool) → nat_le a.last m ≡ b → cond b (after_event a m event) None ≡ Some p → (a.last ≤ m) × (after_event a m event ≡ Some p)
    at true t h = (grind (arith, nat_tests), h)
    at false t h = cc
