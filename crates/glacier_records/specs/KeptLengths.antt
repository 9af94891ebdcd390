-- How many bytes an item's record takes in a journal.
use Rattle.std.specs.Prelude.{ℕ, ◌+◌, ◌*◌, List, length, sum_by}
use Rattle.glacier_vault.specs.Lengths.{account_length, vault_length, text_length, leaves_length, work_length}
use Rattle.glacier_records.specs.declared.kept.Blob.{Blob}
use Rattle.glacier_records.specs.declared.kept.Kept.{Kept}
use Rattle.glacier_records.specs.declared.kept.Kept.TheVariants as kept

-- the record of an item and its frame of 5 bytes, where runs count for nothing
abbrev pub kept_length : Kept → ℕ
kept_length (kept.Account counter) = account_length
kept_length (kept.Vault name) = vault_length (length name)
kept_length (kept.Archive name number held size description leaves blobs) =
    vault_length (length name) + 17 + text_length description + leaves_length leaves + 4 + 12 * length blobs
kept_length (kept.OpenUpload name number part_size description) =
    vault_length (length name) + 16 + text_length description
kept_length (kept.OpenPart name upload index size blob leaves runs) =
    vault_length (length name) + 28 + leaves_length leaves + 4
kept_length (kept.Finished name upload size tree archive) = vault_length (length name) + 56
kept_length (kept.Job name number ready tier stage description work) =
    vault_length (length name) + 18 + text_length description + work_length work
kept_length (kept.Line name job archive size created description tree) =
    vault_length (length name) + 64 + text_length description
kept_length (kept.Lock name number locked policy) = vault_length (length name) + 9 + text_length policy

-- the runs of blobs
abbrev pub runs_of_blobs : List Blob → ℕ
runs_of_blobs blobs = sum_by (λ blob. length blob.runs) blobs

-- how many runs an item has
abbrev pub run_count : Kept → ℕ
run_count (kept.Archive name number held size description leaves blobs) = runs_of_blobs blobs
run_count (kept.OpenPart name upload index size blob leaves runs) = length runs
run_count (kept.Account counter) = 0
run_count (kept.Vault name) = 0
run_count (kept.OpenUpload name number part_size description) = 0
run_count (kept.Finished name upload size tree archive) = 0
run_count (kept.Job name number ready tier stage description work) = 0
run_count (kept.Line name job archive size created description tree) = 0
run_count (kept.Lock name number locked policy) = 0
