-- No event changes a lock that is locked.
use Rattle.std.specs.Prelude.{◌≡◌, ℕ, true, false, cond, not, ◌&&◌, List, Option, Some, None, is_none, nat_le, nat_lt}
use Rattle.std.specs.Cmp.Lexicographic.{nat_list_cmp_total}
use Rattle.std.specs.FinMap as map
use Rattle.std.specs.Option.{option_map}
use Rattle.std.proofs.Common.{◌∙◌, ap, sym, refl}
use Rattle.glacier_base.specs.Maps.{changed_at, map_values}
use Rattle.glacier_base.proofs.Changed.{get-map_values}
use Rattle.glacier_vault.specs.Account.{new_vault}
use Rattle.glacier_vault.specs.Deletions.{deletion_refusal, has_content, is_locked, without_archive}
use Rattle.glacier_vault.specs.PartSizes.{is_part_size, last_index}
use Rattle.glacier_upload.specs.Completion.{covered, has_gap}
use Rattle.glacier_upload.specs.Uploads.{without_upload}
use Rattle.glacier_vault.specs.Rows.{draw_refusal}
use Rattle.glacier_vault.specs.declared.event.Event.{Event}
use Rattle.glacier_vault.specs.declared.event.Event.TheVariants as events
use Rattle.glacier_vault.specs.declared.lock.Lock.{Lock}
use Rattle.glacier_vault.specs.declared.refusal.Refusal.{Refusal}
use Rattle.glacier_vault.specs.declared.refusal.Refusal.TheVariants.{NoVault}
use Rattle.glacier_vault.specs.declared.state.AccountState.{AccountState}
use Rattle.glacier_vault.specs.declared.state.VaultState.{VaultState}
use Rattle.glacier_job.specs.Pass.{lock_after, passed, is_past}
use Rattle.glacier_lock.specs.Locks.{initiate_refusal, lock_of, lock_refusal, with_lock}
use Rattle.glacier_replay.proofs.Seen.{may_go, in_vault_keeps, inserted, not_true, of_fitted, of_found, of_some, removed, seen_in, stays, there}
use Rattle.glacier_replay.specs.Replayed.{after_event, can_draw, in_progress, is_body, policy_or_none, progress_of}

module _ (a : AccountState) (m : ℕ) (name : List ℕ) (lock : Lock) (is_lock : lock_of a name ≡ Some lock) (is_fixed : lock.locked ≡ true) where
  abbrev view : VaultState → Option Lock
  view vault = vault.lock

  abbrev kept : (other : List ℕ) (f : VaultState → VaultState) → ((vault : VaultState) → view (f vault) ≡ view vault) → seen_in view (map.get (changed_at f a.vaults other) name) ≡ Some lock
  kept other f same = stays a.vaults name view lock is_lock other f same

  -- a vault that is free of it has another lock, or none
  not_free : (vault : VaultState) → is_locked vault.lock ≡ false → view vault ≡ Some lock → ⊥
  not_free vault free l = let fixed : true ≡ false = sym is_fixed ∙ ap is_locked (sym l) ∙ free in cc

  passes : seen_in view (map.get (map_values (passed m) a.vaults) name) ≡ Some lock
  passes = there a.vaults name view lock is_lock _ (λ vault e l. ap (seen_in view) (get-map_values nat_list_cmp_total (passed m) a.vaults name) ∙ ap (λ r. seen_in view (option_map (passed m) r)) e ∙ ap (lock_after m) l ∙ ap (λ b. cond (not b && is_past m lock.created) None (Some lock)) is_fixed)

  -- a lock that is locked isn't in progress
  no_progress : (other : List ℕ) (l : Lock) → progress_of a other ≡ Some l → (next : Option Lock) → seen_in view (map.get (changed_at (with_lock next) a.vaults other) name) ≡ Some lock
  no_progress other l progress next = in_vault_keeps a.vaults name view lock is_lock other (with_lock next) (λ here _ e is.
      let none : None ≡ Some l =
      sym (ap (λ (r : Option VaultState). elim r as (λ _. Option Lock) [ None ↦ None | Some vault ↦ in_progress vault.lock ]) e ∙ ap in_progress is ∙ ap (λ b. cond b None (Some lock)) is_fixed) ∙ progress in
      cc)

  -- nor does its vault take another
  unlocked : (other : List ℕ) → is_none (initiate_refusal a other) ≡ true → (next : Option Lock) → seen_in view (map.get (changed_at (with_lock next) a.vaults other) name) ≡ Some lock
  unlocked other free next = in_vault_keeps a.vaults name view lock is_lock other (with_lock next) (λ here _ e is.
      let none : false ≡ true =
      sym (ap (λ (r : Option VaultState). is_none (elim r as (λ _. Option Refusal) [ None ↦ Some (NoVault other) | Some vault ↦ beside vault.lock ])) e ∙ ap (λ r. is_none (beside r)) is) ∙ free in
      cc)
    where
      beside : Option Lock → Option Refusal
      beside r = elim (lock_refusal r) [ Some refusal ↦ Some refusal | None ↦ draw_refusal a ]

  pub locked_stays : (event : Event) (p : AccountState × List ℕ) → after_event a m event ≡ Some p → lock_of p.0 name ≡ Some lock
  locked_stays events.Pass p e = of_some name view lock _ p e passes
  locked_stays (events.CreateVault other) p e = of_fitted name view lock (not (map.contains_key a.vaults other)) _ p e (λ free. inserted a.vaults name view lock is_lock other (new_vault m) (not_true (map.contains_key a.vaults other) free))
  locked_stays (events.DeleteVault other) p e = of_found name view lock (map.get a.vaults other) _ p e (λ vault found next.
      of_fitted name view lock (is_none (deletion_refusal vault)) _ p next (λ free. removed a.vaults name view lock is_lock other vault found (not_free vault (may_go (has_content vault) (is_locked vault.lock) free).1)))
  locked_stays (events.Upload other size description leaves) p e = of_fitted name view lock (map.contains_key a.vaults other && is_body size leaves && can_draw a) _ p e (λ _. kept other _ (λ _. refl))
  locked_stays (events.DeleteArchive other archive) p e = of_found name view lock (map.get a.vaults other) _ p e (λ vault found next. of_fitted name view lock (map.contains_key vault.archives archive) _ p next (λ _. kept other (without_archive archive) (λ _. refl)))
  locked_stays (events.BeginUpload other part_size description) p e = of_fitted name view lock (map.contains_key a.vaults other && is_part_size part_size && can_draw a) _ p e (λ _. kept other _ (λ _. refl))
  locked_stays (events.Part other upload index size leaves) p e = of_found name view lock (map.get a.vaults other) _ p e (λ vault found next. of_found name view lock (map.get vault.uploads upload) _ p next (λ there is_open last.
      of_fitted name view lock (nat_le index last_index && nat_le size there.part_size && is_body size leaves && can_draw a) _ p last (λ _. kept other _ (λ _. refl))))
  locked_stays (events.Complete other upload) p e = of_found name view lock (map.get a.vaults other) _ p e (λ vault found next. of_found name view lock (map.get vault.uploads upload) _ p next (λ there is_open last.
      of_fitted name view lock (nat_le 1 (covered there) && not (has_gap there) && can_draw a) _ p last (λ _. kept other _ (λ _. refl))))
  locked_stays (events.Abort other upload) p e = of_found name view lock (map.get a.vaults other) _ p e (λ vault found next. of_found name view lock (map.get vault.uploads upload) _ p next (λ there is_open last. of_some name view lock _ p last (kept other (without_upload upload) (λ _. refl))))
  locked_stays (events.BeginRetrieval other archive first end tier ready description) p e = of_found name view lock (map.get a.vaults other) _ p e (λ vault found next. of_found name view lock (map.get vault.archives archive) _ p next (λ there is_live last.
      of_fitted name view lock (nat_lt first end && nat_le end there.size && can_draw a) _ p last (λ _. kept other _ (λ _. refl))))
  locked_stays (events.BeginInventory other csv tier ready description) p e = of_fitted name view lock (map.contains_key a.vaults other && can_draw a) _ p e (λ _. kept other _ (λ _. refl))
  locked_stays (events.InitiateLock other policy) p e = of_found name view lock (policy_or_none policy) _ p e (λ read is_read last.
      of_fitted name view lock (is_none (initiate_refusal a other)) _ p last (λ free. unlocked other free _))
  locked_stays (events.CompleteLock other) p e = of_found name view lock (progress_of a other) _ p e (λ l progress last. of_some name view lock _ p last (no_progress other l progress _))
  locked_stays (events.AbortLock other) p e = of_found name view lock (progress_of a other) _ p e (λ l progress last. of_some name view lock _ p last (no_progress other l progress _))
