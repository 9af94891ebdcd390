-- The rows of uploads in parts: their beginning, and their end without an archive.
use Rattle.std.specs.Prelude.{◌≡◌, ◌≢◌, ℕ, List, [], Option, Some, None, Ok, Err, IsTrue, not, if◌then◌else◌, nat_le, map as each}
use Rattle.std.specs.FinMap as map
use Rattle.glacier_vault.specs.Account.{counter_end}
use Rattle.glacier_vault.specs.Lawful.{IsLawfulUpload}
use Rattle.glacier_vault.specs.PartSizes.{is_part_size}
use Rattle.glacier_vault.specs.Rows.{Row, no_change, changed, changed_freeing, in_vault, drawn, draw_refusal}
use Rattle.glacier_vault.specs.Totals.{uploads_in}
use Rattle.glacier_vault.specs.declared.archive.Upload.{Upload}
use Rattle.glacier_vault.specs.declared.event.Change.{Change}
use Rattle.glacier_vault.specs.declared.event.Event.TheVariants as events
use Rattle.glacier_vault.specs.declared.refusal.Refusal.{Refusal}
use Rattle.glacier_vault.specs.declared.refusal.Refusal.TheVariants.{BadPartSize, NoVault, NoUpload, UploadLimit}
use Rattle.glacier_vault.specs.declared.state.AccountState.{AccountState}
use Rattle.glacier_vault.specs.declared.state.VaultState.{VaultState}
use Rattle.glacier_upload.specs.declared.beginning.TheConstants.{MOST_UPLOADS}

-- the open upload of a number in the vault of a name
abbrev pub open_upload : AccountState → List ℕ → ℕ → Option Upload
open_upload account name number = elim (map.get account.vaults name) [ None ↦ None | Some vault ↦ map.get vault.uploads number ]

-- why no upload in parts begins
abbrev pub begin_refusal : AccountState → List ℕ → ℕ → Option Refusal
begin_refusal account name part_size =
    if not (is_part_size part_size) then Some BadPartSize
    else if not (map.contains_key account.vaults name) then Some (NoVault name)
    else if nat_le MOST_UPLOADS (uploads_in account.vaults) then Some UploadLimit
    else draw_refusal account

-- the upload that begins at the moment m
abbrev pub new_upload : ℕ → ℕ → List ℕ → Upload
new_upload m part_size description = record { created = m; part_size = part_size; description = description; parts = map.empty }

-- the vault with one more open upload
abbrev pub with_upload : ℕ → Upload → VaultState → VaultState
with_upload number upload vault = record vault { uploads = map.insert vault.uploads number upload }

-- an upload that an account can take in at the moment m, in the vault of a name
pub record IsNewUpload (account : AccountState) (m : ℕ) (name : List ℕ) (upload : Upload) : Type 0 where
  pub vault : IsTrue (map.contains_key account.vaults name)
  pub left : account.counter ≢ counter_end
  pub right : IsLawfulUpload m upload
  pub bare : upload.parts ≡ map.empty

-- POST of an upload in parts
abbrev pub begin_row : AccountState → ℕ → List ℕ → ℕ → List ℕ → Row Change
begin_row account m name part_size description = elim (begin_refusal account name part_size) [
  | Some refusal ↦ Err refusal
  | None ↦ Ok (
    in_vault (drawn account) m name (with_upload account.counter (new_upload m part_size description)),
    changed (events.BeginUpload name part_size description),
  )
]

-- the blobs of an upload's parts, in the order of the parts
abbrev pub part_blobs : Upload → List ℕ
part_blobs upload = each (λ part. part.blob) (map.values upload.parts)

-- the blobs of the open upload of a number in the vault of a name
abbrev pub open_blobs : AccountState → List ℕ → ℕ → List ℕ
open_blobs account name number = elim (open_upload account name number) [ None ↦ [] | Some upload ↦ part_blobs upload ]

-- the vault without an open upload
abbrev pub without_upload : ℕ → VaultState → VaultState
without_upload number vault = record vault { uploads = map.remove vault.uploads number }

-- DELETE of an upload in parts: it goes with its parts
abbrev pub abort_row : AccountState → ℕ → List ℕ → ℕ → Row Change
abort_row account m name number = elim (map.get account.vaults name) [
  | None ↦ Err (NoVault name)
  | Some vault ↦
      if map.contains_key vault.finished number then Err (NoUpload number)
      else (elim (map.get vault.uploads number) [
        | None ↦ Ok (account, no_change)
        | Some upload ↦ Ok (in_vault account m name (without_upload number), changed_freeing (events.Abort name number) (part_blobs upload))
      ])
]
