-- What an item of a snapshot makes of an account, or None where it doesn't fit (docs/rules/snapshots.md).
use Rattle.std.specs.Prelude.{ℕ, Bool, false, ◌||◌, List, [], Option, Some, None, Ok, Err, if◌then◌else◌, nat_eq, map as each}
use Rattle.std.specs.FinMap as map
use Rattle.std.specs.List.{list_any}
use Rattle.glacier_policy.specs.Policies.{policy_of}
use Rattle.glacier_treehash.specs.Roots.{root_of_digests}
use Rattle.glacier_vault.specs.declared.archive.Archive.{Archive}
use Rattle.glacier_vault.specs.declared.archive.Part.{Part}
use Rattle.glacier_vault.specs.declared.archive.Upload.{Upload}
use Rattle.glacier_vault.specs.declared.job.Stage.{Stage}
use Rattle.glacier_vault.specs.declared.job.Stage.TheVariants as stages
use Rattle.glacier_vault.specs.declared.lock.Lock.{Lock}
use Rattle.glacier_vault.specs.declared.state.AccountState.{AccountState}
use Rattle.glacier_vault.specs.declared.state.VaultState.{VaultState}
use Rattle.glacier_records.specs.declared.kept.Blob.{Blob}
use Rattle.glacier_records.specs.declared.kept.Kept.{Kept}
use Rattle.glacier_records.specs.declared.kept.Kept.TheVariants as kept
use Rattle.glacier_records.specs.declared.kept.StageName.{StageName}
use Rattle.glacier_records.specs.declared.kept.StageName.TheVariants as stage_names
use Rattle.glacier_restore.specs.Fitting.{is_body}
use Rattle.glacier_restore.specs.Putting.{put_account, put_vault, put_archive, put_upload, put_part, put_finished, put_job, put_line, put_lock}

-- the stage of a name, with no line yet
abbrev pub stage_of : StageName → Stage
stage_of stage_names.Waiting = stages.Waiting
stage_of stage_names.Failed = stages.Failed
stage_of stage_names.Done = stages.Done []

abbrev pub numbers_of : List Blob → List ℕ
numbers_of blobs = each (λ blob. blob.number) blobs

-- whether a blob is one of an archive's, of an open upload's, of a vault's or of an account's
abbrev pub archive_names : ℕ → Archive → Bool
archive_names blob archive = list_any (λ number. nat_eq number blob) archive.blobs

abbrev pub upload_names : ℕ → Upload → Bool
upload_names blob upload = list_any (λ part. nat_eq part.blob blob) (map.values upload.parts)

abbrev pub vault_names : ℕ → VaultState → Bool
vault_names blob vault =
    list_any (archive_names blob) (map.values vault.archives)
    || list_any (archive_names blob) (map.values vault.held)
    || list_any (upload_names blob) (map.values vault.uploads)

abbrev pub is_named : AccountState → ℕ → Bool
is_named a blob = list_any (vault_names blob) (map.values a.vaults)

-- whether the account names a blob that an item brings already
abbrev pub names_some : AccountState → Kept → Bool
names_some a (kept.Archive name number held size description leaves blobs) = list_any (λ blob. is_named a blob.number) blobs
names_some a (kept.OpenPart name upload index size blob leaves runs) = is_named a blob
names_some a (kept.Account counter) = false
names_some a (kept.Vault name) = false
names_some a (kept.OpenUpload name number part_size description) = false
names_some a (kept.Finished name upload size tree archive) = false
names_some a (kept.Job name number ready tier stage description work) = false
names_some a (kept.Line name job archive size created description tree) = false
names_some a (kept.Lock name number locked policy) = false

-- the archive of an item, if its leaves are a body's
abbrev pub kept_archive : ℕ → ℕ → List ℕ → List (List ℕ) → List Blob → Option Archive
kept_archive m size description leaves blobs =
    if is_body size leaves then Some (record {
      size = size;
      leaves = leaves;
      tree = root_of_digests leaves;
      description = description;
      created = m;
      blobs = numbers_of blobs;
    }) else None

-- the part of an item, if its leaves are a body's
abbrev pub kept_part : ℕ → ℕ → List (List ℕ) → Option Part
kept_part size blob leaves =
    if is_body size leaves then Some (record { size = size; leaves = leaves; tree = root_of_digests leaves; blob = blob }) else None

-- the lock of a text, if it is a policy
abbrev pub kept_lock : ℕ → ℕ → Bool → List ℕ → Option Lock
kept_lock m number locked text = elim (policy_of text) [
  | Err fault ↦ None
  | Ok read ↦ Some (record { number = number; text = text; policy = read; created = m; locked = locked })
]

-- the account with an item of the moment m, of whose blobs nothing is asked
abbrev pub put : AccountState → ℕ → Kept → Option AccountState
put a m (kept.Account counter) = put_account a m counter
put a m (kept.Vault name) = put_vault a m name
put a m (kept.Archive name number held size description leaves blobs) =
    elim (kept_archive m size description leaves blobs) [ None ↦ None | Some archive ↦ put_archive a name held number archive ]
put a m (kept.OpenUpload name number part_size description) =
    put_upload a name number (record { created = m; part_size = part_size; description = description; parts = map.empty })
put a m (kept.OpenPart name upload index size blob leaves runs) =
    if nat_eq m 0 then (elim (kept_part size blob leaves) [ None ↦ None | Some part ↦ put_part a name upload index part ]) else None
put a m (kept.Finished name upload size tree archive) =
    put_finished a name upload (record { at = m; size = size; tree = tree; archive = archive })
put a m (kept.Job name number ready tier stage description work) =
    put_job a name number (record { created = m; ready = ready; tier = tier; description = description; work = work; stage = stage_of stage })
put a m (kept.Line name job archive size created description tree) =
    if nat_eq m 0 then put_line a name job (record { archive = archive; size = size; created = created; description = description; tree = tree }) else None
put a m (kept.Lock name number locked policy) = elim (kept_lock m number locked policy) [ None ↦ None | Some lock ↦ put_lock a name lock ]

-- the account with an item of the moment m
abbrev pub restored : AccountState → ℕ → Kept → Option AccountState
restored a m item = if names_some a item then None else put a m item
