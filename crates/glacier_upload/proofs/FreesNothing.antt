-- The rows of uploads that free nothing.
use Rattle.std.specs.Prelude.{◌≡◌, ℕ, ◌≤◌, List, Option, Some, None, Ok, Err}
use Rattle.std.specs.FinMap as map
use Rattle.std.proofs.Common.{refl, arith}
use Rattle.glacier_base.specs.Maps.{changed_at}
use Rattle.glacier_vault.specs.Lawful.{IsLawful}
use Rattle.glacier_vault.specs.Rows.{changed, no_change, in_vault, drawn}
use Rattle.glacier_vault.specs.Totals.{naming, times_named}
use Rattle.glacier_vault.specs.declared.archive.Upload.{Upload}
use Rattle.glacier_vault.specs.declared.event.Event.TheVariants as events
use Rattle.glacier_vault.specs.declared.refusal.Refusal.{Refusal}
use Rattle.glacier_vault.specs.declared.state.AccountState.{AccountState}
use Rattle.glacier_vault.specs.declared.state.VaultState.{VaultState}
use Rattle.glacier_upload.specs.Bodies.{body_refusal}
use Rattle.glacier_upload.specs.Completion.{complete_refusal, complete_row, archive_before, whole_archive, with_completed}
use Rattle.glacier_upload.specs.Frees.{FreesNothing, change_of}
use Rattle.glacier_upload.specs.Single.{uploaded_archive, with_archive, upload_row}
use Rattle.glacier_upload.specs.Uploads.{begin_refusal, begin_row, new_upload, with_upload}
use Rattle.glacier_upload.specs.declared.asks.Found.{Found}
use Rattle.glacier_upload.specs.declared.asks.UploadAsk.{UploadAsk}
use Rattle.glacier_upload.proofs.ArchiveLemmas.{total-with_archive}
use Rattle.glacier_upload.proofs.CompletionLemmas.{total-completed, count-part_blobs}
use Rattle.glacier_upload.proofs.CompletionRow.{by_vault, by_answer, by_upload, by_refusal}
use Rattle.glacier_upload.proofs.MultipartLemmas.{total-begun}

-- a row that changes nothing
unchanged : (a : AccountState) → FreesNothing a (Ok (a, no_change))
unchanged a = record { none = refl; named = λ blob. omega arith }

refused : (a : AccountState) (refusal : Refusal) → FreesNothing a (Err refusal)
refused a refusal = record { none = refl; named = λ blob. omega arith }

module _ (a : AccountState) (m : ℕ) (name : List ℕ) (f : VaultState → VaultState) where
  -- what changes no vault
  missed : map.get a.vaults name ≡ None → (blob : ℕ) → times_named blob a.vaults ≤ times_named blob (changed_at f a.vaults name)
  missed e blob = rw (changed_at, e) (omega arith)

module _ (a : AccountState) (m : ℕ) (lawful : IsLawful a) where
  upload-names : (ask : UploadAsk) (found : Found) (r : Option VaultState) → map.get a.vaults ask.vault ≡ r → (blob : ℕ)
      → times_named blob a.vaults ≤ times_named blob (changed_at (with_archive a.counter (uploaded_archive a.counter m ask found)) a.vaults ask.vault)
  upload-names ask found None e blob = missed a m ask.vault (with_archive a.counter (uploaded_archive a.counter m ask found)) e blob
  upload-names ask found (Some vault) e blob = omega (arith, total-with_archive a a.last (omega arith) lawful ask.vault vault e (uploaded_archive a.counter m ask found) (naming blob))

  pub upload-nothing : (ask : UploadAsk) (found : Found) → FreesNothing a (upload_row a m ask found)
  upload-nothing ask found = at (body_refusal ask.linear ask.tree found)
    where
      at : (r : Option Refusal) → FreesNothing a (elim r [
        | Some refusal ↦ Err refusal
        | None ↦ Ok (in_vault (drawn a) m ask.vault (with_archive a.counter (uploaded_archive a.counter m ask found)), changed (events.Upload ask.vault ask.size ask.description found.leaves))
      ])
      at (Some refusal) = refused a refusal
      at None = record { none = refl; named = upload-names ask found (map.get a.vaults ask.vault) refl }

  module _ (name : List ℕ) where
    begin-names : (upload : Upload) → upload.parts ≡ map.empty → (r : Option VaultState) → map.get a.vaults name ≡ r → (blob : ℕ)
        → times_named blob a.vaults ≤ times_named blob (changed_at (with_upload a.counter upload) a.vaults name)
    begin-names upload bare None e blob = missed a m name (with_upload a.counter upload) e blob
    begin-names upload bare (Some vault) e blob = omega (arith, total-begun a a.last (omega arith) lawful name vault e upload bare (naming blob))

    pub begin-nothing : (part_size : ℕ) (description : List ℕ) → FreesNothing a (begin_row a m name part_size description)
    begin-nothing part_size description = at (begin_refusal a name part_size)
      where
        at : (r : Option Refusal) → FreesNothing a (elim r [
          | Some refusal ↦ Err refusal
          | None ↦ Ok (in_vault (drawn a) m name (with_upload a.counter (new_upload m part_size description)), changed (events.BeginUpload name part_size description))
        ])
        at (Some refusal) = refused a refusal
        at None = record { none = refl; named = begin-names (new_upload m part_size description) refl (map.get a.vaults name) refl }

    module _ (number size : ℕ) (tree : List ℕ) where
      completion-names : (vault : VaultState) → map.get a.vaults name ≡ Some vault → (upload : Upload) → map.get vault.uploads number ≡ Some upload → (blob : ℕ)
          → times_named blob a.vaults ≤ times_named blob (changed_at (with_completed number a.counter (whole_archive m upload)) a.vaults name)
      completion-names vault there upload is_open blob = omega (arith, total-completed a lawful name vault there number upload is_open m (naming blob), count-part_blobs blob (map.values upload.parts))

      in_refusal : (vault : VaultState) → map.get a.vaults name ≡ Some vault → (upload : Upload) → map.get vault.uploads number ≡ Some upload → (r : Option Refusal)
          → FreesNothing a (change_of (by_refusal a m name number size tree upload r))
      in_refusal vault there upload is_open (Some refusal) = refused a refusal
      in_refusal vault there upload is_open None = record { none = refl; named = completion-names vault there upload is_open }

      in_upload : (vault : VaultState) → map.get a.vaults name ≡ Some vault → (r : Option Upload) → map.get vault.uploads number ≡ r → FreesNothing a (change_of (by_upload a m name number size tree r))
      in_upload vault there None e = record { none = refl; named = λ blob. omega arith }
      in_upload vault there (Some upload) e = in_refusal vault there upload e (complete_refusal a upload size tree)

      in_answer : (vault : VaultState) → map.get a.vaults name ≡ Some vault → (r : Option ℕ) → FreesNothing a (change_of (by_answer a m name number size tree vault r))
      in_answer vault there (Some archive) = unchanged a
      in_answer vault there None = in_upload vault there (map.get vault.uploads number) refl

      in_account : (r : Option VaultState) → map.get a.vaults name ≡ r → FreesNothing a (change_of (by_vault a m name number size tree r))
      in_account None e = record { none = refl; named = λ blob. omega arith }
      in_account (Some vault) e = in_answer vault e (archive_before vault number size tree)

      pub completion-nothing : FreesNothing a (change_of (complete_row a m name number size tree))
      completion-nothing = in_account (map.get a.vaults name) refl
