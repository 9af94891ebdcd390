-- The row of a part: before its body, and after.
use Rattle.std.specs.Prelude.{◌≡◌, ◌≢◌, ℕ, ◌/◌, ◌%◌, Bool, ◌||◌, List, [], ◌∷◌, Option, Some, None, Ok, Err, not, if◌then◌else◌, nat_eq, nat_lt}
use Rattle.std.specs.FinMap as map
use Rattle.glacier_base.specs.Maps.{changed_at}
use Rattle.glacier_vault.specs.Account.{counter_end}
use Rattle.glacier_vault.specs.Lawful.{IsLawfulPart}
use Rattle.glacier_vault.specs.Lengths.{part_length}
use Rattle.glacier_vault.specs.PartSizes.{last_index}
use Rattle.glacier_vault.specs.Rows.{Row, changed_freeing, in_vault, drawn}
use Rattle.glacier_vault.specs.Totals.{need}
use Rattle.glacier_vault.specs.declared.archive.Part.{Part}
use Rattle.glacier_vault.specs.declared.archive.Upload.{Upload}
use Rattle.glacier_vault.specs.declared.event.Change.{Change}
use Rattle.glacier_vault.specs.declared.event.Event.TheVariants as events
use Rattle.glacier_vault.specs.declared.refusal.Refusal.{Refusal}
use Rattle.glacier_vault.specs.declared.refusal.Refusal.TheVariants.{NoVault, NoUpload, BadRange, PartTooMany}
use Rattle.glacier_vault.specs.declared.state.AccountState.{AccountState}
use Rattle.glacier_vault.specs.declared.state.VaultState.{VaultState}
use Rattle.glacier_upload.specs.Bodies.{room_refusal, body_refusal}
use Rattle.glacier_upload.specs.Uploads.{open_upload}
use Rattle.glacier_upload.specs.declared.asks.Found.{Found}
use Rattle.glacier_upload.specs.declared.asks.PartAsk.{PartAsk}

-- the part doesn't begin at a multiple of the part size, or is longer
abbrev pub is_misplaced : Upload → PartAsk → Bool
is_misplaced upload ask = not (nat_eq (ask.first % upload.part_size) 0) || nat_lt upload.part_size ask.size

-- the index of a part in its place
abbrev pub index_of : Upload → PartAsk → ℕ
index_of upload ask = ask.first / upload.part_size

-- why a part is refused before its body
abbrev pub part_refusal : ℕ → AccountState → PartAsk → Option Refusal
part_refusal quota account ask = elim (map.get account.vaults ask.vault) [
  | None ↦ Some (NoVault ask.vault)
  | Some vault ↦ elim (map.get vault.uploads ask.upload) [
    | None ↦ Some (NoUpload ask.upload)
    | Some upload ↦
        if is_misplaced upload ask then Some BadRange
        else if nat_lt last_index (index_of upload ask) then Some (PartTooMany (index_of upload ask))
        else room_refusal quota account ask.size
  ]
]

-- some quota admits the part
abbrev pub IsPartAdmitted : AccountState → PartAsk → Type 0
IsPartAdmitted account ask = (quota : ℕ) × (part_refusal quota account ask ≡ None)

-- the part of a body, whose blob has this number
abbrev pub found_part : ℕ → PartAsk → Found → Part
found_part number ask found = record { size = ask.size; leaves = found.leaves; tree = ask.tree; blob = number }

-- the upload with a part, in place of the one that was at its index
abbrev pub with_part : ℕ → Part → Upload → Upload
with_part index part upload = record upload { parts = map.insert upload.parts index part }

-- the vault in which f changes an open upload
abbrev pub in_upload : ℕ → (Upload → Upload) → VaultState → VaultState
in_upload number f vault = record vault { uploads = changed_at f vault.uploads number }

-- the blob of the part at an index
abbrev pub replaced_blob : Upload → ℕ → List ℕ
replaced_blob upload index = elim (map.get upload.parts index) [ None ↦ [] | Some old ↦ old.blob ∷ [] ]

-- how many blocks it takes
abbrev pub replaced_room : Upload → ℕ → ℕ
replaced_room upload index = elim (map.get upload.parts index) [ None ↦ 0 | Some old ↦ need old.size ]

-- how many bytes it takes in a snapshot, where the vault's name has n bytes
abbrev pub replaced_length : ℕ → Upload → ℕ → ℕ
replaced_length n upload index = elim (map.get upload.parts index) [ None ↦ 0 | Some old ↦ part_length n old ]

-- the blob of the part at an index of the open upload of a number in the vault of a name
abbrev pub replaced : AccountState → List ℕ → ℕ → ℕ → List ℕ
replaced account name number index = elim (open_upload account name number) [ None ↦ [] | Some upload ↦ replaced_blob upload index ]

-- a part that an account can take in at an index, in the open upload of a number in the vault of a name
pub record IsNewPart (account : AccountState) (name : List ℕ) (number index : ℕ) (part : Part) : Type 0 where
  pub upload : Upload
  pub there : open_upload account name number ≡ Some upload
  pub left : account.counter ≢ counter_end
  pub right : IsLawfulPart upload.part_size index part
  pub blob : part.blob ≡ account.counter

-- PUT of a part, once its body was taken: an old part at its place goes
abbrev pub part_row : AccountState → ℕ → PartAsk → Found → Row Change
part_row account m ask found = elim (body_refusal ask.linear ask.tree found) [
  | Some refusal ↦ Err refusal
  | None ↦ elim (open_upload account ask.vault ask.upload) [
    | None ↦ Err (NoUpload ask.upload)
    | Some upload ↦ Ok (
      in_vault (drawn account) m ask.vault (in_upload ask.upload (with_part (index_of upload ask) (found_part account.counter ask found))),
      changed_freeing (events.Part ask.vault ask.upload (index_of upload ask) ask.size found.leaves) (replaced_blob upload (index_of upload ask)),
    )
  ]
]
