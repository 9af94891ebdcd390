-- A live archive leaves its vault by a deletion alone.
use Rattle.std.specs.Prelude.{◌≡◌, ◌≢◌, ℕ, Bool, true, false, cond, not, ◌&&◌, List, Option, Some, None, IsSome, is_none, nat_le, nat_lt}
use Rattle.std.specs.Cmp.{nat_cmp_total}
use Rattle.std.specs.Cmp.Lexicographic.{nat_list_cmp_total}
use Rattle.std.specs.FinMap as map
use Rattle.std.specs.Option.{option_map}
use Rattle.std.specs.Ordering.{nat_cmp, eq_by_cmp}
use Rattle.std.proofs.Common.{◌∙◌, ap, sym, refl, subst, arith}
use Rattle.glacier_base.specs.Maps.{changed_at, map_values}
use Rattle.glacier_base.proofs.Changed.{get-map_values}
use Rattle.glacier_base.proofs.Sorted.{tied}
use Rattle.glacier_vault.specs.Account.{new_vault}
use Rattle.glacier_vault.specs.Deletions.{deletion_refusal, has_content, is_locked, live_archive, without_archive}
use Rattle.glacier_vault.specs.Lawful.{IsLawful, IsLawfulArchive}
use Rattle.glacier_vault.specs.PartSizes.{is_part_size, last_index}
use Rattle.glacier_vault.specs.declared.archive.Archive.{Archive}
use Rattle.glacier_vault.specs.declared.event.Event.{Event}
use Rattle.glacier_vault.specs.declared.event.Event.TheVariants as events
use Rattle.glacier_vault.specs.declared.state.AccountState.{AccountState}
use Rattle.glacier_vault.specs.declared.state.VaultState.{VaultState}
use Rattle.glacier_vault.proofs.Fresh.{other_than_next}
use Rattle.glacier_vault.proofs.KeepsLawful.{lawful_there}
use Rattle.glacier_upload.specs.Completion.{covered, has_gap, whole_archive}
use Rattle.glacier_upload.specs.Uploads.{without_upload}
use Rattle.glacier_job.specs.Pass.{passed}
use Rattle.glacier_lock.specs.Locks.{initiate_refusal}
use Rattle.glacier_replay.specs.Replayed.{after_event, can_draw, is_body, policy_or_none, progress_of, recorded_archive}
use Rattle.glacier_replay.proofs.Seen.{may_go, in_vault_keeps, inserted, not_true, of_fitted, of_found, of_some, removed, seen_in, stays}

module _ (a : AccountState) (m : ℕ) (lawful : IsLawful a) (name : List ℕ) (number : ℕ) (archive : Archive) (is_live : live_archive a name number ≡ Some archive) where
  abbrev view : VaultState → Option Archive
  view vault = map.get vault.archives number

  -- an archive at the counter is another
  added : (other : List ℕ) (f : VaultState → VaultState) (new : VaultState → Archive) → ((vault : VaultState) → (f vault).archives ≡ map.insert vault.archives a.counter (new vault))
      → seen_in view (map.get (changed_at f a.vaults other) name) ≡ Some archive
  added other f new is = in_vault_keeps a.vaults name view archive is_live other f (λ vault same found l.
      let right = lawful_there a a.counter a.last (omega arith) (omega arith) lawful other vault found in
      ap (λ archives. map.get archives number) (is vault)
      ∙ map.get-insert nat_cmp_total vault.archives a.counter (new vault) number
      ∙ ap (λ b. cond b (Some (new vault)) (map.get vault.archives number)) (other_than_next (IsLawfulArchive a.last) a.counter number (map.get vault.archives number) (right.archives number) (subst IsSome (sym l) refl))
      ∙ l)

  -- a vault with a live archive has content
  has_one : (vault : VaultState) → has_content vault ≡ false → view vault ≡ Some archive → ⊥
  has_one vault bare l =
      let none : map.len vault.archives ≡ 0 = grind (arith, bare) in
      let gone : ◌≡◌ {A = Option Archive} None (Some archive) = sym (map.get-empty nat_cmp number) ∙ ap (λ archives. map.get archives number) (sym (map.empty_of_len vault.archives none)) ∙ l in
      cc

  -- the deletion of another
  taken : (other : List ℕ) (gone : ℕ) → events.DeleteArchive other gone ≢ events.DeleteArchive name number → seen_in view (map.get (changed_at (without_archive gone) a.vaults other) name) ≡ Some archive
  taken other gone apart = in_vault_keeps a.vaults name view archive is_live other (without_archive gone) (λ vault same found l.
      map.get-remove nat_cmp_total vault.archives gone number ∙ at vault same (eq_by_cmp nat_cmp number gone) refl ∙ l)
    where
      at : (vault : VaultState) → name ≡ other → (b : Bool) → eq_by_cmp nat_cmp number gone ≡ b → cond b None (map.get vault.archives number) ≡ map.get vault.archives number
      at vault same true t =
          let this : number ≡ gone = map.nat_cmp-IsAntisymmetric number gone (tied _ t) in
          absurd (apart (λ i. events.DeleteArchive (sym same i) (sym this i)))
      at vault same false t = refl

  passes : seen_in view (map.get (map_values (passed m) a.vaults) name) ≡ Some archive
  passes = ap (seen_in view) (get-map_values nat_list_cmp_total (passed m) a.vaults name) ∙ at (map.get a.vaults name) is_live
    where
      at : (r : Option VaultState) → seen_in view r ≡ Some archive → seen_in view (option_map (passed m) r) ≡ Some archive
      at None e = e
      at (Some vault) e = e

  abbrev kept : (other : List ℕ) (f : VaultState → VaultState) → ((vault : VaultState) → view (f vault) ≡ view vault) → seen_in view (map.get (changed_at f a.vaults other) name) ≡ Some archive
  kept other f same = stays a.vaults name view archive is_live other f same

  pub archive_stays : (event : Event) → event ≢ events.DeleteArchive name number → (p : AccountState × List ℕ) → after_event a m event ≡ Some p → live_archive p.0 name number ≡ Some archive
  archive_stays events.Pass apart p e = of_some name view archive _ p e passes
  archive_stays (events.CreateVault other) apart p e = of_fitted name view archive (not (map.contains_key a.vaults other)) _ p e (λ free. inserted a.vaults name view archive is_live other (new_vault m) (not_true (map.contains_key a.vaults other) free))
  archive_stays (events.DeleteVault other) apart p e = of_found name view archive (map.get a.vaults other) _ p e (λ vault found next.
      of_fitted name view archive (is_none (deletion_refusal vault)) _ p next (λ free. removed a.vaults name view archive is_live other vault found (has_one vault (may_go (has_content vault) (is_locked vault.lock) free).0)))
  archive_stays (events.Upload other size description leaves) apart p e = of_fitted name view archive (map.contains_key a.vaults other && is_body size leaves && can_draw a) _ p e (λ _. added other _ (λ _. recorded_archive a.counter m size description leaves) (λ _. refl))
  archive_stays (events.DeleteArchive other gone) apart p e = of_found name view archive (map.get a.vaults other) _ p e (λ vault found next. of_fitted name view archive (map.contains_key vault.archives gone) _ p next (λ _. taken other gone apart))
  archive_stays (events.BeginUpload other part_size description) apart p e = of_fitted name view archive (map.contains_key a.vaults other && is_part_size part_size && can_draw a) _ p e (λ _. kept other _ (λ _. refl))
  archive_stays (events.Part other upload index size leaves) apart p e = of_found name view archive (map.get a.vaults other) _ p e (λ vault found next. of_found name view archive (map.get vault.uploads upload) _ p next (λ there is_open last.
      of_fitted name view archive (nat_le index last_index && nat_le size there.part_size && is_body size leaves && can_draw a) _ p last (λ _. kept other _ (λ _. refl))))
  archive_stays (events.Complete other upload) apart p e = of_found name view archive (map.get a.vaults other) _ p e (λ vault found next. of_found name view archive (map.get vault.uploads upload) _ p next (λ there is_open last.
      of_fitted name view archive (nat_le 1 (covered there) && not (has_gap there) && can_draw a) _ p last
      (λ _. added other _ (λ _. whole_archive m there) (λ _. refl))))
  archive_stays (events.Abort other upload) apart p e = of_found name view archive (map.get a.vaults other) _ p e (λ vault found next. of_found name view archive (map.get vault.uploads upload) _ p next (λ there is_open last.
      of_some name view archive _ p last (kept other (without_upload upload) (λ _. refl))))
  archive_stays (events.BeginRetrieval other asked first end tier ready description) apart p e = of_found name view archive (map.get a.vaults other) _ p e (λ vault found next. of_found name view archive (map.get vault.archives asked) _ p next (λ there is_there last.
      of_fitted name view archive (nat_lt first end && nat_le end there.size && can_draw a) _ p last (λ _. kept other _ (λ _. refl))))
  archive_stays (events.BeginInventory other csv tier ready description) apart p e = of_fitted name view archive (map.contains_key a.vaults other && can_draw a) _ p e (λ _. kept other _ (λ _. refl))
  archive_stays (events.InitiateLock other policy) apart p e = of_found name view archive (policy_or_none policy) _ p e (λ read is_read last.
      of_fitted name view archive (is_none (initiate_refusal a other)) _ p last (λ _. kept other _ (λ _. refl)))
  archive_stays (events.CompleteLock other) apart p e = of_found name view archive (progress_of a other) _ p e (λ l progress last. of_some name view archive _ p last (kept other _ (λ _. refl)))
  archive_stays (events.AbortLock other) apart p e = of_found name view archive (progress_of a other) _ p e (λ l progress last. of_some name view archive _ p last (kept other _ (λ _. refl)))
