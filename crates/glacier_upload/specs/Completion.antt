-- The row of a completion.
use Rattle.std.specs.Prelude.{◌≡◌, ◌≢◌, ◌≤◌, ℕ, ◌+◌, ◌*◌, Bool, false, List, [], ◌∷◌, Option, Some, None, Ok, Err, not, ◌&&◌, if◌then◌else◌, nat_eq, nat_lt}
use Rattle.std.specs.FinMap as map
use Rattle.std.specs.List.{list_any, flat_map}
use Rattle.glacier_treehash.specs.Roots.{root_of_digests}
use Rattle.glacier_vault.specs.Account.{counter_end}
use Rattle.glacier_vault.specs.Due.{sooner, finished_due}
use Rattle.glacier_vault.specs.Lengths.{lengths}
use Rattle.glacier_vault.specs.Rows.{Row, no_change, changed, in_vault, drawn, draw_refusal, with_archives}
use Rattle.glacier_vault.specs.Totals.{upload_total}
use Rattle.glacier_vault.specs.declared.archive.Archive.{Archive}
use Rattle.glacier_vault.specs.declared.archive.Finished.{Finished}
use Rattle.glacier_vault.specs.declared.archive.Part.{Part}
use Rattle.glacier_vault.specs.declared.archive.Upload.{Upload}
use Rattle.glacier_vault.specs.declared.event.Change.{Change}
use Rattle.glacier_vault.specs.declared.event.Event.TheVariants as events
use Rattle.glacier_vault.specs.declared.refusal.Refusal.{Refusal}
use Rattle.glacier_vault.specs.declared.refusal.Refusal.TheVariants.{NoVault, NoUpload, Gap, SizeDiffers, TreeMismatch}
use Rattle.glacier_vault.specs.declared.state.AccountState.{AccountState}
use Rattle.glacier_vault.specs.declared.state.VaultState.{VaultState}
use Rattle.glacier_upload.specs.Bodies.{is_same}
use Rattle.glacier_upload.specs.Uploads.{open_upload, part_blobs}

-- the end of the bytes that parts cover without a gap, where those before them end here
abbrev pub covered_from : ℕ → ℕ → List (ℕ × Part) → ℕ
covered_from part_size end [] = end
covered_from part_size end (e ∷ es) = if nat_eq (e.0 * part_size) end then covered_from part_size (end + e.1.size) es else end

-- the end of the bytes that an upload's parts cover without a gap from 0
abbrev pub covered : Upload → ℕ
covered upload = covered_from upload.part_size 0 (map.entries upload.parts)

-- whether a part begins after them
abbrev pub has_gap : Upload → Bool
has_gap upload = list_any (λ index. nat_lt (covered upload) (index * upload.part_size)) (map.keys upload.parts)

-- the leaves of an upload's parts, in the order of the parts
abbrev pub part_leaves : Upload → List (List ℕ)
part_leaves upload = flat_map (λ part. part.leaves) (map.values upload.parts)

-- why an upload's parts don't cover just so many bytes
abbrev pub cover_refusal : Upload → ℕ → Option Refusal
cover_refusal upload size =
    if has_gap upload then Some (Gap (covered upload))
    else if not (nat_eq (covered upload) size) then Some (SizeDiffers (covered upload) size)
    else None

-- why an open upload isn't completed with this size and tree hash
abbrev pub complete_refusal : AccountState → Upload → ℕ → List ℕ → Option Refusal
complete_refusal account upload size tree = elim (cover_refusal upload size) [
  | Some refusal ↦ Some refusal
  | None ↦
      if not (is_same (root_of_digests (part_leaves upload)) tree) then Some (TreeMismatch (root_of_digests (part_leaves upload)) tree)
      else draw_refusal account
]

-- the archive that an upload's parts make up, as it is made at the moment m: what they cover, in their blobs
abbrev pub whole_archive : ℕ → Upload → Archive
whole_archive m upload = record {
  size = covered upload;
  leaves = part_leaves upload;
  tree = root_of_digests (part_leaves upload);
  description = upload.description;
  created = m;
  blobs = part_blobs upload;
}

-- the upload that was completed as an archive of this number
abbrev pub finished_as : ℕ → Archive → Finished
finished_as archive_number archive = record { at = archive.created; size = archive.size; tree = archive.tree; archive = archive_number }

-- the vault in which the open upload of a number is finished
abbrev pub with_finished : ℕ → Finished → VaultState → VaultState
with_finished number finished vault = record vault {
  uploads = map.remove vault.uploads number;
  finished = map.insert vault.finished number finished;
  due = sooner vault.due (finished_due finished);
}

-- how many bytes the open upload of a number takes in a snapshot, where the vault's name has n bytes
abbrev pub open_length : ℕ → ℕ → VaultState → ℕ
open_length n number vault = elim (map.get vault.uploads number) [ None ↦ 0 | Some upload ↦ upload_total (lengths n) upload ]

-- the vault in which the open upload of a number became an archive of another number
abbrev pub with_completed : ℕ → ℕ → Archive → VaultState → VaultState
with_completed number archive_number archive vault = record (with_archives vault (map.insert vault.archives archive_number archive)) {
  uploads = map.remove vault.uploads number;
  finished = map.insert vault.finished number (finished_as archive_number archive);
  due = sooner vault.due (finished_due (finished_as archive_number archive));
}

-- an archive that the open upload of a number, in the vault of a name, can become at the moment m
pub record IsWhole (account : AccountState) (m : ℕ) (name : List ℕ) (number : ℕ) (archive : Archive) : Type 0 where
  pub upload : Upload
  pub there : open_upload account name number ≡ Some upload
  pub left : account.counter ≢ counter_end
  pub some : 1 ≤ covered upload
  pub no_gap : has_gap upload ≡ false
  pub is : archive ≡ whole_archive m upload

-- the archive of an upload that was completed with this size and tree hash
abbrev pub archive_before : VaultState → ℕ → ℕ → List ℕ → Option ℕ
archive_before vault number size tree = elim (map.get vault.finished number) [
  | None ↦ None
  | Some upload ↦ if nat_eq upload.size size && is_same upload.tree tree then Some upload.archive else None
]

-- POST of an upload in parts: what it covers becomes an archive, and a repetition is answered the same
abbrev pub complete_row : AccountState → ℕ → List ℕ → ℕ → ℕ → List ℕ → Row (ℕ × Change)
complete_row account m name number size tree = elim (map.get account.vaults name) [
  | None ↦ Err (NoVault name)
  | Some vault ↦ elim (archive_before vault number size tree) [
    | Some archive ↦ Ok (account, (archive, no_change))
    | None ↦ elim (map.get vault.uploads number) [
      | None ↦ Err (NoUpload number)
      | Some upload ↦ elim (complete_refusal account upload size tree) [
        | Some refusal ↦ Err refusal
        | None ↦ Ok (
          in_vault (drawn account) m name (with_completed number account.counter (whole_archive m upload)),
          (account.counter, changed (events.Complete name number)),
        )
      ]
    ]
  ]
]
