-- The row of a single upload: before its body, and after.
use Rattle.std.specs.Prelude.{◌≡◌, ◌≢◌, ℕ, [], ◌∷◌, List, Option, Some, None, Ok, Err, IsTrue, not, if◌then◌else◌, nat_lt}
use Rattle.std.specs.FinMap as map
use Rattle.glacier_vault.specs.Account.{counter_end}
use Rattle.glacier_vault.specs.Lawful.{IsLawfulArchive}
use Rattle.glacier_vault.specs.Rows.{Row, changed, in_vault, drawn, with_archives}
use Rattle.glacier_vault.specs.declared.archive.Archive.{Archive}
use Rattle.glacier_vault.specs.declared.event.Change.{Change}
use Rattle.glacier_vault.specs.declared.event.Event.TheVariants as events
use Rattle.glacier_vault.specs.declared.refusal.Refusal.{Refusal}
use Rattle.glacier_vault.specs.declared.refusal.Refusal.TheVariants.{NoVault, Empty, TooLarge}
use Rattle.glacier_vault.specs.declared.state.AccountState.{AccountState}
use Rattle.glacier_vault.specs.declared.state.VaultState.{VaultState}
use Rattle.glacier_upload.specs.Bodies.{room_refusal, body_refusal}
use Rattle.glacier_upload.specs.declared.asks.Found.{Found}
use Rattle.glacier_upload.specs.declared.asks.UploadAsk.{UploadAsk}
use Rattle.glacier_upload.specs.declared.single.TheConstants.{MOST_BYTES}

-- why an upload is refused before its body
abbrev pub upload_refusal : ℕ → AccountState → UploadAsk → Option Refusal
upload_refusal quota account ask =
    if not (map.contains_key account.vaults ask.vault) then Some (NoVault ask.vault)
    else if nat_lt ask.size 1 then Some Empty
    else if nat_lt MOST_BYTES ask.size then Some (TooLarge ask.size MOST_BYTES)
    else room_refusal quota account ask.size

-- some quota admits the upload
abbrev pub IsAdmitted : AccountState → UploadAsk → Type 0
IsAdmitted account ask = (quota : ℕ) × (upload_refusal quota account ask ≡ None)

-- the archive of an upload, whose one blob has the archive's own number
abbrev pub uploaded_archive : ℕ → ℕ → UploadAsk → Found → Archive
uploaded_archive number m ask found = record {
  size = ask.size;
  leaves = found.leaves;
  tree = ask.tree;
  description = ask.description;
  created = m;
  blobs = number ∷ [];
}

-- the vault with one more archive
abbrev pub with_archive : ℕ → Archive → VaultState → VaultState
with_archive number archive vault = with_archives vault (map.insert vault.archives number archive)

-- an archive that an account can take in at the moment m, in the vault of a name
pub record IsNewArchive (account : AccountState) (m : ℕ) (name : List ℕ) (archive : Archive) : Type 0 where
  pub vault : IsTrue (map.contains_key account.vaults name)
  pub left : account.counter ≢ counter_end
  pub right : IsLawfulArchive m archive
  pub blob : archive.blobs ≡ account.counter ∷ []

-- POST of an archive, once its body was taken
abbrev pub upload_row : AccountState → ℕ → UploadAsk → Found → Row Change
upload_row account m ask found = elim (body_refusal ask.linear ask.tree found) [
  | Some refusal ↦ Err refusal
  | None ↦ Ok (
    in_vault (drawn account) m ask.vault (with_archive account.counter (uploaded_archive account.counter m ask found)),
    changed (events.Upload ask.vault ask.size ask.description found.leaves),
  )
]
