-- What aborts and parts free, and that other rows of uploads free nothing.
use Rattle.std.specs.Prelude.{◌≡◌, ℕ, ◌≤◌, ◌+◌, ◌-◌, Bool, true, false, cond, List, [], ◌∷◌, Option, Some, None, Ok, Err, nat_eq}
use Rattle.std.specs.FinMap as map
use Rattle.std.proofs.Common.{refl, arith}
use Rattle.std.proofs.lemmas.Bool.{eqb-true}
use Rattle.glacier_base.proofs.Sums.{weight}
use Rattle.glacier_vault.specs.Freed.{times_in, FreesJust, RowFreesJust}
use Rattle.glacier_vault.specs.Lawful.{IsLawful}
use Rattle.glacier_vault.specs.Rows.{Row, no_change, changed_freeing, in_vault, drawn}
use Rattle.glacier_vault.specs.Totals.{naming, times_named}
use Rattle.glacier_vault.specs.declared.archive.Part.{Part}
use Rattle.glacier_vault.specs.declared.archive.Upload.{Upload}
use Rattle.glacier_vault.specs.declared.event.Change.{Change}
use Rattle.glacier_vault.specs.declared.event.Event.TheVariants as events
use Rattle.glacier_vault.specs.declared.refusal.Refusal.{Refusal}
use Rattle.glacier_vault.specs.declared.refusal.Refusal.TheVariants.{NoVault, NoUpload}
use Rattle.glacier_vault.specs.declared.state.AccountState.{AccountState}
use Rattle.glacier_vault.specs.declared.state.VaultState.{VaultState}
use Rattle.glacier_vault.proofs.FreedLemmas.{same-frees}
use Rattle.glacier_upload.specs.Bodies.{body_refusal}
use Rattle.glacier_upload.specs.Parts.{found_part, in_upload, index_of, part_row, replaced_blob, with_part}
use Rattle.glacier_upload.specs.Uploads.{abort_row, open_upload, part_blobs, without_upload}
use Rattle.glacier_upload.specs.declared.asks.Found.{Found}
use Rattle.glacier_upload.specs.declared.asks.PartAsk.{PartAsk}
use Rattle.glacier_upload.proofs.CompletionLemmas.{count-part_blobs}
use Rattle.glacier_upload.proofs.MultipartLemmas.{total-aborted}
use Rattle.glacier_upload.proofs.PartLemmas.{total-with_part, part_within}
use Rattle.glacier_upload.proofs.SameText.{count-alone}

module _ (a : AccountState) (m : ℕ) (name : List ℕ) (lawful : IsLawful a) where
  frees-aborted : (vault : VaultState) → map.get a.vaults name ≡ Some vault → (number : ℕ) (upload : Upload) → map.get vault.uploads number ≡ Some upload → FreesJust a (in_vault a m name (without_upload number)) (part_blobs upload)
  frees-aborted vault there number upload is_open blob =
      omega (arith, count-part_blobs blob (map.values upload.parts), total-aborted a a.last (omega arith) lawful name vault there number upload is_open (naming blob))

  module _ (number : ℕ) where
    abbrev by_upload : Option Upload → Row Change
    by_upload r = elim r [ None ↦ Ok (a, no_change) | Some upload ↦ Ok (in_vault a m name (without_upload number), changed_freeing (events.Abort name number) (part_blobs upload)) ]

    abbrev by_vault : Option VaultState → Row Change
    by_vault r = elim r [ None ↦ Err (NoVault name) | Some vault ↦ cond (map.contains_key vault.finished number) (Err (NoUpload number)) (by_upload (map.get vault.uploads number)) ]

    in_upload_found : (vault : VaultState) → map.get a.vaults name ≡ Some vault → (r : Option Upload) → map.get vault.uploads number ≡ r → RowFreesJust a (by_upload r)
    in_upload_found vault there None e = same-frees a
    in_upload_found vault there (Some upload) e = frees-aborted vault there number upload e

    in_finished : (vault : VaultState) → map.get a.vaults name ≡ Some vault → (b : Bool) → RowFreesJust a (cond b (Err (NoUpload number)) (by_upload (map.get vault.uploads number)))
    in_finished vault there true = same-frees a
    in_finished vault there false = in_upload_found vault there (map.get vault.uploads number) refl

    in_account : (r : Option VaultState) → map.get a.vaults name ≡ r → RowFreesJust a (by_vault r)
    in_account None e = same-frees a
    in_account (Some vault) e = in_finished vault e (map.contains_key vault.finished number)

    pub abort-frees : RowFreesJust a (abort_row a m name number)
    abort-frees = in_account (map.get a.vaults name) refl

module _ (a : AccountState) (m : ℕ) (lawful : IsLawful a) (ask : PartAsk) (found : Found) where
  replaced_once : (upload : Upload) (index blob : ℕ) → times_in blob (replaced_blob upload index) ≡ weight (naming blob).part (map.get upload.parts index)
  replaced_once upload index blob = at (map.get upload.parts index)
    where
      at : (r : Option Part) → times_in blob (elim r [ None ↦ [] | Some old ↦ old.blob ∷ [] ]) ≡ weight (naming blob).part r
      at None = refl
      at (Some old) = count-alone old.blob blob

  -- the state that a part leaves
  abbrev after : Upload → AccountState
  after upload = in_vault (drawn a) m ask.vault (in_upload ask.upload (with_part (index_of upload ask) (found_part a.counter ask found)))

  frees-part : (vault : VaultState) → map.get a.vaults ask.vault ≡ Some vault → (upload : Upload) → map.get vault.uploads ask.upload ≡ Some upload
      → FreesJust a (after upload) (replaced_blob upload (index_of upload ask))
  frees-part vault there upload is_open blob =
      let index : ℕ = index_of upload ask in
      let part : Part = found_part a.counter ask found in
      at (nat_eq a.counter blob) refl (total-with_part a a.last (omega arith) lawful ask.vault vault there ask.upload upload is_open index part (naming blob) refl)
      (part_within a a.last (omega arith) lawful ask.vault vault there ask.upload upload is_open index (naming blob))
    where
      at : (b : Bool) → nat_eq a.counter blob ≡ b
          → times_named blob (after upload).vaults + weight (naming blob).part (map.get upload.parts (index_of upload ask)) ≡ times_named blob a.vaults + cond b 1 0
          → weight (naming blob).part (map.get upload.parts (index_of upload ask)) ≤ times_named blob a.vaults
          → times_in blob (replaced_blob upload (index_of upload ask)) ≡ times_named blob a.vaults - times_named blob (after upload).vaults
      at true t moved within =
          let is : a.counter ≡ blob = eqb-true a.counter blob t in
          let none = (lawful.blobs blob).drawn (omega arith) in
          omega (arith, replaced_once upload (index_of upload ask) blob)
      at false t moved within = omega (arith, replaced_once upload (index_of upload ask) blob)

  abbrev by_open : Option Upload → Row Change
  by_open r = elim r [
    | None ↦ Err (NoUpload ask.upload)
    | Some upload ↦ Ok (after upload, changed_freeing (events.Part ask.vault ask.upload (index_of upload ask) ask.size found.leaves) (replaced_blob upload (index_of upload ask)))
  ]

  abbrev in_vault_of : Option VaultState → Option Upload
  in_vault_of r = elim r [ None ↦ None | Some vault ↦ map.get vault.uploads ask.upload ]

  abbrev by_body : Option Refusal → Row Change
  by_body r = elim r [ Some refusal ↦ Err refusal | None ↦ by_open (open_upload a ask.vault ask.upload) ]

  in_open : (vault : VaultState) → map.get a.vaults ask.vault ≡ Some vault → (r : Option Upload) → map.get vault.uploads ask.upload ≡ r → RowFreesJust a (by_open r)
  in_open vault there None e = same-frees a
  in_open vault there (Some upload) e = frees-part vault there upload e

  in_vaults : (r : Option VaultState) → map.get a.vaults ask.vault ≡ r → RowFreesJust a (by_open (in_vault_of r))
  in_vaults None e = same-frees a
  in_vaults (Some vault) e = in_open vault e (map.get vault.uploads ask.upload) refl

  in_body : (r : Option Refusal) → RowFreesJust a (by_body r)
  in_body (Some refusal) = same-frees a
  in_body None = in_vaults (map.get a.vaults ask.vault) refl

  pub part-frees : RowFreesJust a (part_row a m ask found)
  part-frees = in_body (body_refusal ask.linear ask.tree found)
