-- When a pass is due, after a completion.
use Rattle.std.specs.Prelude.{◌≡◌, ℕ, Option, Some, None, IsSome}
use Rattle.std.specs.Cmp.{nat_cmp_total}
use Rattle.std.specs.FinMap as map
use Rattle.std.proofs.Common.{◌∙◌, ap, sym, refl, subst}
use Rattle.glacier_vault.specs.Due.{sooner, soonest, job_due, finished_due, held_due, vault_due, lock_due}
use Rattle.glacier_vault.specs.Lawful.{IsLawfulVault}
use Rattle.glacier_vault.specs.declared.archive.Archive.{Archive}
use Rattle.glacier_vault.specs.declared.archive.Finished.{Finished}
use Rattle.glacier_vault.specs.declared.archive.Upload.{Upload}
use Rattle.glacier_vault.specs.declared.state.VaultState.{VaultState}
use Rattle.glacier_vault.proofs.SoonerLemmas.{sooner-assoc, sooner-swap}
use Rattle.glacier_vault.proofs.SoonestLemmas.{soonest-missing}
use Rattle.glacier_upload.specs.Completion.{finished_as, with_completed}

-- an open upload isn't finished
pub not_finished : (counter last : ℕ) (vault : VaultState) → IsLawfulVault counter last vault → (number : ℕ) (upload : Upload) → map.get vault.uploads number ≡ Some upload → map.get vault.finished number ≡ None
not_finished counter last vault lawful number upload is_open = at (map.get vault.finished number) refl
  where
    at : (r : Option Finished) → map.get vault.finished number ≡ r → map.get vault.finished number ≡ None
    at None e = e
    at (Some finished) e = let none : map.get vault.uploads number ≡ None = lawful.open_or_finished number (subst IsSome (sym e) refl) in let no : Some upload ≡ None = sym is_open ∙ none in cc

module _ (number archive_number : ℕ) (archive : Archive) (vault : VaultState) where
  abbrev end : Option ℕ
  end = finished_due (finished_as archive_number archive)

  -- a completion is due in the vault's content, and nothing else is sooner
  pub content_due-completed : (counter last : ℕ) → IsLawfulVault counter last vault → (upload : Upload) → map.get vault.uploads number ≡ Some upload
      → sooner vault.due end ≡ sooner (soonest job_due (map.values vault.jobs))
      (sooner (soonest finished_due (map.values (map.insert vault.finished number (finished_as archive_number archive)))) (held_due vault))
  content_due-completed counter last lawful upload is_open =
      let jobs = soonest job_due (map.values vault.jobs) in
      let finished = soonest finished_due (map.values vault.finished) in
      let new = soonest-missing nat_cmp_total finished_due vault.finished number (finished_as archive_number archive) (not_finished counter last vault lawful number upload is_open) in
      ap (λ due. sooner due end) lawful.due ∙ sooner-assoc jobs (sooner finished (held_due vault)) end
      ∙ ap (λ due. sooner jobs due) (sooner-swap finished (held_due vault) end)
      ∙ ap (λ due. sooner jobs (sooner due (held_due vault))) (sym new)

  -- and in the vault
  pub vault_due-completed : vault_due (with_completed number archive_number archive vault) ≡ sooner (vault_due vault) end
  vault_due-completed = sooner-swap vault.due end (lock_due vault.lock)
