-- The items of an account's part of a snapshot make the account.
use Rattle.std.specs.Prelude.{◌≡◌, ℕ, List, ◌++◌, Option, Some, None, IfSome, nat_eq}
use Rattle.std.specs.Cmp.Lexicographic.{nat_list_cmp_total, slice_cmp}
use Rattle.std.specs.FinMap as map
use Rattle.std.specs.Ordering.{nat_cmp}
use Rattle.std.proofs.Common.{◌∙◌, ap, sym, refl, subst}
use Rattle.glacier_base.proofs.Finite.{bytes_cmp-IsAntisymmetric}
use Rattle.glacier_extents.specs.declared.run.Run.{Run}
use Rattle.glacier_vault.specs.Account.{empty_account, new_vault}
use Rattle.glacier_vault.specs.Due.{due_in}
use Rattle.glacier_vault.specs.Lawful.{IsLawful, IsLawfulVault}
use Rattle.glacier_vault.specs.Lengths.{snapshot_length}
use Rattle.glacier_vault.specs.Named.{named_in}
use Rattle.glacier_vault.specs.Totals.{Vaults, vault_total, blocks, each_upload, each_job, used_in, uploads_in, jobs_in}
use Rattle.glacier_vault.specs.declared.archive.Archive.{Archive}
use Rattle.glacier_vault.specs.declared.state.AccountState.{AccountState}
use Rattle.glacier_vault.specs.declared.state.VaultState.{VaultState}
use Rattle.glacier_vault.proofs.DueLemmas.{due_in-empty, content_due-new_vault}
use Rattle.glacier_vault.proofs.LengthLemmas.{length-empty}
use Rattle.glacier_vault.proofs.NamingLemmas.{named_in-empty}
use Rattle.glacier_vault.proofs.TotalsLemmas.{sum_by-empty}
use Rattle.glacier_records.specs.declared.kept.Kept.TheVariants as kept
use Rattle.glacier_restore.specs.Moments.{with_due}
use Rattle.glacier_restore.specs.Putting.{where_fits}
use Rattle.glacier_restore.specs.Restoring.{put}
use Rattle.glacier_restore.specs.Snapshot.{put_all, of_each, archive_items, held_items, upload_items, finished_items, job_items, lock_items, held_in, vault_items, snapshot_items}
use Rattle.glacier_restore.specs.Sound.{IsSound, IsSoundVault}
use Rattle.glacier_restore.proofs.AgainLemmas.{none_of_one, archives_again, held_again, uploads_again, finished_again}
use Rattle.glacier_restore.proofs.EachLemmas.{HasRoom, put_all-append, put_all-cons, each_entry}
use Rattle.glacier_restore.proofs.GrownLemmas.{right_vault}
use Rattle.glacier_restore.proofs.JobsAgain.{jobs_again, lock_again}
use Rattle.glacier_restore.proofs.PlacedLemmas.{both, le_test, account_of, stand, archives_made, finished_made, jobs_made}

module _ (runs : ℕ → List Run) (a : AccountState) (lawful : IsLawful a) where
  module _ (p : Vaults) (name : List ℕ) (vault : VaultState) (there : map.get a.vaults name ≡ Some vault) where
    right : IsLawfulVault a.counter a.last vault
    right = right_vault a lawful name vault there

    vault_put : map.get p name ≡ None → put (account_of a.last a.counter p) vault.created (kept.Vault name) ≡ Some (stand a p name (archives_made vault map.empty))
    vault_put none =
        ap (λ b. where_fits b (stand a p name (new_vault vault.created))) (both _ _ (none_of_one (map.get p name) none) (le_test vault.created a.last right.created))
        ∙ ap (λ bytes. Some (stand a p name (record (new_vault vault.created) { bytes = bytes }))) (sym (sum_by-empty nat_cmp (λ (x : Archive). x.size)))
        ∙ ap (λ due. Some (stand a p name (record (archives_made vault map.empty) { due = due }))) (sym (content_due-new_vault vault.created))

    held_again_in : IsSoundVault vault → map.get p name ≡ None → HasRoom a.vaults p vault → put_all (stand a p name (archives_made vault map.empty)) (held_in runs name vault) ≡ Some (stand a p name vault)
    held_again_in sound none room =
        let no_names : Some (stand a p name (finished_made vault vault.finished)) ≡ Some (stand a p name (jobs_made vault map.empty)) = ap (λ named. Some (stand a p name (record (finished_made vault vault.finished) { named = named }))) (sym named_in-empty) in
        let jobs = of_each (job_items name) vault.jobs ++ lock_items name vault.lock in
        let finished = of_each (finished_items name) vault.finished ++ jobs in
        let uploads = of_each (upload_items runs name) vault.uploads ++ finished in
        let held = of_each (held_items runs name) vault.held ++ uploads in
        put_all-append (of_each (archive_items runs name) vault.archives) held _ _ (archives_again a lawful name vault there runs p none room)
        ∙ put_all-append (of_each (held_items runs name) vault.held) uploads _ _ (held_again a lawful name vault there runs p none room)
        ∙ put_all-append (of_each (upload_items runs name) vault.uploads) finished _ _ (uploads_again a lawful name vault there runs p none room)
        ∙ put_all-append (of_each (finished_items name) vault.finished) jobs _ _ (finished_again a lawful name vault there runs p none room sound ∙ no_names)
        ∙ put_all-append (of_each (job_items name) vault.jobs) (lock_items name vault.lock) _ _ (jobs_again a p name vault right sound)
        ∙ lock_again a p name vault vault.lock right.lock
        ∙ ap (λ bytes. Some (stand a p name (with_due (record vault { bytes = bytes; named = named_in vault.jobs })))) (sym right.bytes)
        ∙ ap (λ named. Some (stand a p name (with_due (record vault { named = named })))) (sym right.named)
        ∙ ap (λ due. Some (stand a p name (record vault { due = due }))) (sym right.due)

    vault_again : IsSoundVault vault → map.get p name ≡ None → HasRoom a.vaults p vault → put_all (account_of a.last a.counter p) (vault_items runs name vault) ≡ Some (account_of a.last a.counter (map.insert p name vault))
    vault_again sound none room = put_all-cons vault.created (kept.Vault name) (held_in runs name vault) (account_of a.last a.counter p) _ refl (vault_put none) ∙ held_again_in sound none room

  account_put : put empty_account a.last (kept.Account a.counter) ≡ Some (account_of a.last a.counter map.empty)
  account_put =
      let begun : ℕ → ℕ → ℕ → Option ℕ → ℕ → AccountState = λ used uploads jobs due length. record { last = a.last; counter = a.counter; vaults = map.empty; used = used; uploads = uploads; jobs = jobs; due = due; length = length } in
      ap (λ n. where_fits (nat_eq n 0) (begun 0 0 0 None 34)) (map.len-empty (slice_cmp nat_cmp) VaultState)
      ∙ ap (λ n. Some (begun n 0 0 None 34)) (sym (sum_by-empty (slice_cmp nat_cmp) (vault_total blocks)))
      ∙ ap (λ n. Some (begun (used_in map.empty) n 0 None 34)) (sym (sum_by-empty (slice_cmp nat_cmp) (vault_total each_upload)))
      ∙ ap (λ n. Some (begun (used_in map.empty) (uploads_in map.empty) n None 34)) (sym (sum_by-empty (slice_cmp nat_cmp) (vault_total each_job)))
      ∙ ap (λ due. Some (begun (used_in map.empty) (uploads_in map.empty) (jobs_in map.empty) due 34)) (sym due_in-empty)
      ∙ ap (λ length. Some (begun (used_in map.empty) (uploads_in map.empty) (jobs_in map.empty) (due_in map.empty) length)) (sym length-empty)

  -- its totals are those of its vaults
  totals_again : account_of a.last a.counter a.vaults ≡ a
  totals_again =
      ap (λ used. record (account_of a.last a.counter a.vaults) { used = used }) (sym lawful.used)
      ∙ ap (λ uploads. record (account_of a.last a.counter a.vaults) { used = a.used; uploads = uploads }) (sym lawful.uploads)
      ∙ ap (λ jobs. record (account_of a.last a.counter a.vaults) { used = a.used; uploads = a.uploads; jobs = jobs }) (sym lawful.jobs)
      ∙ ap (λ due. record a { due = due; length = snapshot_length a.vaults }) (sym lawful.due)
      ∙ ap (λ length. record a { length = length }) (sym lawful.length)

  pub account_again : IsSound a → put_all empty_account (snapshot_items runs a) ≡ Some a
  account_again sound =
      put_all-cons a.last (kept.Account a.counter) (of_each (vault_items runs) a.vaults) empty_account _ refl account_put
      ∙ each_entry nat_list_cmp_total bytes_cmp-IsAntisymmetric a.vaults (account_of a.last a.counter) (vault_items runs) (λ p name vault there none room.
      vault_again p name vault there (subst (λ r. IfSome r IsSoundVault) there (sound.vaults name)) none room)
      ∙ ap (λ b. Some b) totals_again
