-- An event frees just the blobs that nothing names any more, and what it makes of a body names the body's blob.
use Rattle.std.specs.Prelude.{◌≡◌, ℕ, ◌+◌, ◌-◌, ◌≤◌, Bool, true, false, cond, not, ◌&&◌, List, [], ◌∷◌, Option, Some, None, is_none, is_some, nat_eq, nat_le, nat_lt}
use Rattle.std.specs.FinMap as map
use Rattle.std.proofs.Common.{◌∙◌, ap, sym, refl, subst, arith, eq-eqb}
use Rattle.std.proofs.lemmas.Bool.{eqb-true}
use Rattle.glacier_base.specs.Maps.{changed_at}
use Rattle.glacier_base.proofs.Sums.{weight}
use Rattle.glacier_vault.specs.Account.{new_vault}
use Rattle.glacier_vault.specs.Deletions.{deletion_refusal, without_archive, freed_by_deletion}
use Rattle.glacier_vault.specs.Freed.{times_in, FreesJust, RowFreesJust}
use Rattle.glacier_vault.specs.Lawful.{IsLawful}
use Rattle.glacier_vault.specs.PartSizes.{is_part_size, last_index}
use Rattle.glacier_vault.specs.Rows.{changed_freeing, drawn, in_vault, no_change, with_vaults}
use Rattle.glacier_vault.specs.Totals.{Vaults, naming, times_named, vault_total}
use Rattle.glacier_vault.specs.declared.archive.Archive.{Archive}
use Rattle.glacier_vault.specs.declared.archive.Part.{Part}
use Rattle.glacier_vault.specs.declared.archive.Upload.{Upload}
use Rattle.glacier_vault.specs.declared.event.Change.{Change}
use Rattle.glacier_vault.specs.declared.event.Event.{Event}
use Rattle.glacier_vault.specs.declared.event.Event.TheVariants as events
use Rattle.glacier_vault.specs.declared.job.Job.{Job}
use Rattle.glacier_vault.specs.declared.job.Work.TheVariants as works
use Rattle.glacier_vault.specs.declared.lock.Lock.{Lock}
use Rattle.glacier_vault.specs.declared.refusal.Refusal.{Refusal}
use Rattle.glacier_vault.specs.declared.state.AccountState.{AccountState}
use Rattle.glacier_vault.specs.declared.state.VaultState.{VaultState}
use Rattle.glacier_vault.proofs.DeletionLemmas.{by_refusal, by_vault}
use Rattle.glacier_vault.proofs.FreedLemmas.{archive-frees, delete-frees}
use Rattle.glacier_vault.proofs.TotalsLemmas.{lock_total-zero, sum_by-none, total-changed_at, total-new_vault}
use Rattle.glacier_upload.specs.Completion.{covered, has_gap, whole_archive, with_completed}
use Rattle.glacier_upload.specs.Parts.{in_upload, replaced_blob, with_part}
use Rattle.glacier_upload.specs.Single.{with_archive}
use Rattle.glacier_upload.specs.Uploads.{new_upload, with_upload}
use Rattle.glacier_upload.proofs.ArchiveLemmas.{total-with_archive}
use Rattle.glacier_upload.proofs.CompletionLemmas.{count-part_blobs, total-completed}
use Rattle.glacier_upload.proofs.MultipartLemmas.{total-aborted, total-begun}
use Rattle.glacier_upload.proofs.PartLemmas.{part_within, total-with_part}
use Rattle.glacier_upload.proofs.SameText.{count-alone}
use Rattle.glacier_job.specs.Beginning.{after_put, with_job}
use Rattle.glacier_job.specs.Work.{retrieval}
use Rattle.glacier_job.proofs.PassFrees.{pass-frees}
use Rattle.glacier_lock.specs.Locks.{initiate_refusal, locked, new_lock, with_lock}
use Rattle.glacier_replay.specs.Changes.{body_in}
use Rattle.glacier_replay.specs.Replayed.{after_event, can_draw, is_body, policy_or_none, progress_of, recorded_archive, recorded_job, recorded_part}
use Rattle.glacier_replay.proofs.CounterLemmas.{of_fit, of_done, of_there}
use Rattle.glacier_replay.proofs.Options.{first_of, there_is}

-- what is freed, and that the new body's blob is named
pub record Frees (a : AccountState) (new : Bool) (q : AccountState × List ℕ) : Type 0 where
  pub just : FreesJust a q.0 q.1
  pub named : new ≡ true → 1 ≤ times_named a.counter q.0.vaults

module _ (a : AccountState) (m : ℕ) (lawful : IsLawful a) where
  -- nothing is freed, and each blob is named as often as before at least
  named_still : (after : AccountState) → ((blob : ℕ) → times_named blob a.vaults ≤ times_named blob after.vaults) → Frees a false (after, [])
  named_still after more = record { just = λ blob. omega (arith, more blob); named = λ t. cc }

  once : (number : ℕ) → times_in number (number ∷ []) ≡ 1
  once number = count-alone number number ∙ ap (λ b. cond {A = ℕ} b 1 0) (eq-eqb number number refl)

  module _ (name : List ℕ) where
    -- a change of a vault that keeps its names
    same_names : (f : VaultState → VaultState) → ((vault : VaultState) (blob : ℕ) → vault_total (naming blob) (f vault) ≡ vault_total (naming blob) vault) → (blob : ℕ) → times_named blob a.vaults ≤ times_named blob (changed_at f a.vaults name)
    same_names f same blob = at (map.get a.vaults name) refl
      where
        at : (r : Option VaultState) → map.get a.vaults name ≡ r → times_named blob a.vaults ≤ times_named blob (elim r as (λ _. Vaults) [ None ↦ a.vaults | Some v ↦ map.insert a.vaults name (f v) ])
        at None e = omega arith
        at (Some vault) e = omega (arith, changed vault e, same vault blob)
          where
            changed : (vault : VaultState) → map.get a.vaults name ≡ Some vault → times_named blob (map.insert a.vaults name (f vault)) + vault_total (naming blob) vault ≡ times_named blob a.vaults + vault_total (naming blob) (f vault)
            changed vault e = subst (λ r. times_named blob (elim r as (λ _. Vaults) [ None ↦ a.vaults | Some v ↦ map.insert a.vaults name (f v) ]) + vault_total (naming blob) vault ≡ times_named blob a.vaults + vault_total (naming blob) (f vault)) e
                (total-changed_at (naming blob) a.vaults name vault e f)

    with_job_names : (job : Job) (vault : VaultState) (blob : ℕ) → vault_total (naming blob) (with_job a.counter job vault) ≡ vault_total (naming blob) vault
    with_job_names job vault blob = omega (arith, sum_by-none (map.values vault.jobs), sum_by-none (map.values (map.insert vault.jobs a.counter job)))

    with_lock_names : (lock : Option Lock) (vault : VaultState) (blob : ℕ) → vault_total (naming blob) (with_lock lock vault) ≡ vault_total (naming blob) vault
    with_lock_names lock vault blob = omega (arith, lock_total-zero (naming blob) (λ _. refl) lock, lock_total-zero (naming blob) (λ _. refl) vault.lock)

    begun : (job : Job) → Frees a false (after_put a m name job, [])
    begun job = named_still (after_put a m name job) (same_names (with_job a.counter job) (with_job_names job))

    module _ (vault : VaultState) (there : map.get a.vaults name ≡ Some vault) where
      frees_vault : deletion_refusal vault ≡ None → RowFreesJust a (by_refusal a m name vault None)
      frees_vault none = subst (λ (r : Option Refusal). RowFreesJust a (by_refusal a m name vault r)) none (subst (λ (r : Option VaultState). RowFreesJust a (by_vault a m name r)) there (delete-frees a m name lawful))

      module _ (upload : ℕ) (found : Upload) (is_open : map.get vault.uploads upload ≡ Some found) where
        replaced_once : (index blob : ℕ) → times_in blob (replaced_blob found index) ≡ weight (naming blob).part (map.get found.parts index)
        replaced_once index blob = at (map.get found.parts index)
          where
            at : (r : Option Part) → times_in blob (elim r [ None ↦ [] | Some old ↦ old.blob ∷ [] ]) ≡ weight (naming blob).part r
            at None = refl
            at (Some old) = count-alone old.blob blob

        module _ (index size : ℕ) (leaves : List (List ℕ)) where
          abbrev after_part : AccountState
          after_part = in_vault (drawn a) m name (in_upload upload (with_part index (recorded_part a.counter size leaves)))

          moved : (blob : ℕ) → times_named blob after_part.vaults + weight (naming blob).part (map.get found.parts index) ≡ times_named blob a.vaults + cond {A = ℕ} (nat_eq a.counter blob) 1 0
          moved blob = total-with_part a a.last (omega arith) lawful name vault there upload found is_open index (recorded_part a.counter size leaves) (naming blob) refl

          within : (blob : ℕ) → weight (naming blob).part (map.get found.parts index) ≤ times_named blob a.vaults
          within blob = part_within a a.last (omega arith) lawful name vault there upload found is_open index (naming blob)

          unnamed : times_named a.counter a.vaults ≡ 0
          unnamed = (lawful.blobs a.counter).drawn (omega arith)

          frees_part : Frees a true (after_part, replaced_blob found index)
          frees_part = record {
            just = λ blob. at blob (nat_eq a.counter blob) refl;
            named = λ t. omega (arith, unnamed, moved a.counter, within a.counter, ap (λ b. cond {A = ℕ} b 1 0) (eq-eqb a.counter a.counter refl));
          }
            where
              at : (blob : ℕ) (b : Bool) → nat_eq a.counter blob ≡ b → times_in blob (replaced_blob found index) ≡ times_named blob a.vaults - times_named blob after_part.vaults
              at blob true t =
                  let none : times_named blob a.vaults ≡ 0 = subst (λ (n : ℕ). times_named n a.vaults ≡ 0) (eqb-true a.counter blob t) unnamed in
                  omega (arith, replaced_once index blob, moved blob, within blob, none, ap (λ c. cond {A = ℕ} c 1 0) t)
              at blob false t = omega (arith, replaced_once index blob, moved blob, within blob, ap (λ c. cond {A = ℕ} c 1 0) t)

      frees_upload : (archive : Archive) → archive.blobs ≡ a.counter ∷ [] → (after : AccountState) → ((blob : ℕ) → times_named blob after.vaults ≡ times_named blob a.vaults + (naming blob).archive archive) → Frees a true (after, [])
      frees_upload archive its after added = record {
        just = λ blob. omega (arith, added blob);
        named = λ t. omega (arith, added a.counter, ap (times_in a.counter) its, once a.counter);
      }

  abbrev freed_at : List ℕ → ℕ → Option VaultState → List ℕ
  freed_at name number r = (elim r as (λ _. Change) [ None ↦ no_change | Some v ↦ changed_freeing (events.DeleteArchive name number) (freed_by_deletion number v) ]).freed

  abbrev live_at : ℕ → Option VaultState → Option Archive
  live_at number r = elim r as (λ _. Option Archive) [ None ↦ None | Some v ↦ map.get v.archives number ]

  frees_archive : (name : List ℕ) (vault : VaultState) → map.get a.vaults name ≡ Some vault → (number : ℕ) → map.contains_key vault.archives number ≡ true → FreesJust a (in_vault a m name (without_archive number)) (freed_by_deletion number vault)
  frees_archive name vault there number live = subst (λ (r : Option VaultState). FreesJust a (in_vault a m name (without_archive number)) (freed_at name number r)) there
      (archive-frees a m name lawful number (subst (λ (r : Option VaultState). is_some (live_at number r) ≡ true) (sym there) live))

  module _ (p : AccountState × List ℕ) where
    -- the same for an event that makes no body
    abbrev Plain : AccountState × List ℕ → Type 0
    Plain q = Frees a false q

    pub frees : (event : Event) → after_event a m event ≡ Some p → Frees a (is_some (body_in event)) p
    frees events.Pass e = of_done Plain p _ e (record { just = pass-frees a m; named = λ t. cc })
    frees (events.CreateVault name) e = of_fit Plain p (not (map.contains_key a.vaults name)) _ e (λ free.
        named_still (with_vaults a m (map.insert a.vaults name (new_vault m))) (λ blob. omega (arith, total-new_vault (naming blob) a.vaults name m (absent (map.get a.vaults name) free))))
      where
        absent : (r : Option VaultState) → not (is_some r) ≡ true → r ≡ None
        absent None t = refl
        absent (Some vault) t = cc
    frees (events.DeleteVault name) e = of_there Plain p (map.get a.vaults name) _ e (λ vault there next.
        of_fit Plain p (is_none (deletion_refusal vault)) _ next (λ may. record { just = frees_vault name vault there (none_where (deletion_refusal vault) may); named = λ t. cc }))
      where
        none_where : (r : Option Refusal) → is_none r ≡ true → r ≡ None
        none_where None t = refl
        none_where (Some refusal) t = cc
    frees (events.Upload name size description leaves) e = of_fit (Frees a true) p (map.contains_key a.vaults name && is_body size leaves && can_draw a) _ e (λ fits.
        there_is (map.get a.vaults name) (first_of (map.contains_key a.vaults name) (is_body size leaves) (can_draw a) fits) (λ vault there.
        frees_upload name vault there (recorded_archive a.counter m size description leaves) refl (in_vault (drawn a) m name (with_archive a.counter (recorded_archive a.counter m size description leaves))) (λ blob. total-with_archive a a.last (omega arith) lawful name vault there (recorded_archive a.counter m size description leaves) (naming blob))))
    frees (events.DeleteArchive name archive) e = of_there Plain p (map.get a.vaults name) _ e (λ vault there next.
        of_fit Plain p (map.contains_key vault.archives archive) _ next (λ live. record { just = frees_archive name vault there archive live; named = λ t. cc }))
    frees (events.BeginUpload name part_size description) e = of_fit Plain p (map.contains_key a.vaults name && is_part_size part_size && can_draw a) _ e (λ fits.
        there_is (map.get a.vaults name) (first_of (map.contains_key a.vaults name) (is_part_size part_size) (can_draw a) fits) (λ vault there.
        named_still (in_vault (drawn a) m name (with_upload a.counter (new_upload m part_size description))) (λ blob. omega (arith, total-begun a a.last (omega arith) lawful name vault there (new_upload m part_size description) refl (naming blob)))))
    frees (events.Part name upload index size leaves) e = of_there (Frees a true) p (map.get a.vaults name) _ e (λ vault there next. of_there (Frees a true) p (map.get vault.uploads upload) _ next (λ found is_open last.
        of_fit (Frees a true) p (nat_le index last_index && nat_le size found.part_size && is_body size leaves && can_draw a) _ last (λ _. frees_part name vault there upload found is_open index size leaves)))
    frees (events.Complete name upload) e = of_there Plain p (map.get a.vaults name) _ e (λ vault there next. of_there Plain p (map.get vault.uploads upload) _ next (λ found is_open last.
        of_fit Plain p (nat_le 1 (covered found) && not (has_gap found) && can_draw a) _ last (λ _.
        named_still (in_vault (drawn a) m name (with_completed upload a.counter (whole_archive m found))) (λ blob. omega (arith, total-completed a lawful name vault there upload found is_open m (naming blob), count-part_blobs blob (map.values found.parts))))))
    frees (events.Abort name upload) e = of_there Plain p (map.get a.vaults name) _ e (λ vault there next. of_there Plain p (map.get vault.uploads upload) _ next (λ found is_open last.
        of_done Plain p _ last (record {
          just = λ blob. omega (arith, count-part_blobs blob (map.values found.parts), total-aborted a a.last (omega arith) lawful name vault there upload found is_open (naming blob));
          named = λ t. cc;
        })))
    frees (events.BeginRetrieval name archive first end tier ready description) e = of_there Plain p (map.get a.vaults name) _ e (λ vault there next. of_there Plain p (map.get vault.archives archive) _ next (λ found is_there last.
        of_fit Plain p (nat_lt first end && nat_le end found.size && can_draw a) _ last (λ _. begun name (recorded_job m tier ready description (retrieval archive found first end)))))
    frees (events.BeginInventory name csv tier ready description) e = of_fit Plain p (map.contains_key a.vaults name && can_draw a) _ e (λ _. begun name (recorded_job m tier ready description (works.Inventory csv)))
    frees (events.InitiateLock name policy) e = of_there Plain p (policy_or_none policy) _ e (λ read is_read last.
        of_fit Plain p (is_none (initiate_refusal a name)) _ last (λ _. named_still (in_vault (drawn a) m name (with_lock (Some (new_lock a.counter m policy read)))) (same_names name (with_lock (Some (new_lock a.counter m policy read))) (with_lock_names name (Some (new_lock a.counter m policy read))))))
    frees (events.CompleteLock name) e = of_there Plain p (progress_of a name) _ e (λ lock progress last. of_done Plain p _ last (named_still (in_vault a m name (with_lock (Some (locked lock)))) (same_names name (with_lock (Some (locked lock))) (with_lock_names name (Some (locked lock))))))
    frees (events.AbortLock name) e = of_there Plain p (progress_of a name) _ e (λ lock progress last. of_done Plain p _ last (named_still (in_vault a m name (with_lock None)) (same_names name (with_lock None) (with_lock_names name None))))
