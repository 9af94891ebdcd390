-- How many bytes the records of an account's snapshot take in a journal, but for the runs of its blobs, which take 8 bytes
-- each (docs/rules/records.md). The first parameter is how many bytes the vault's name has.
use Rattle.std.specs.Prelude.{ℕ, ◌+◌, ◌*◌, List, length, Option, Some, None, sum_by}
use Rattle.std.specs.FinMap as map
use Rattle.glacier_vault.specs.Totals.{Weight, Vaults, vault_total}
use Rattle.glacier_vault.specs.declared.archive.Archive.{Archive}
use Rattle.glacier_vault.specs.declared.archive.Part.{Part}
use Rattle.glacier_vault.specs.declared.archive.Upload.{Upload}
use Rattle.glacier_vault.specs.declared.job.Job.{Job}
use Rattle.glacier_vault.specs.declared.job.Line.{Line}
use Rattle.glacier_vault.specs.declared.job.Stage.{Stage}
use Rattle.glacier_vault.specs.declared.job.Stage.TheVariants as stages
use Rattle.glacier_vault.specs.declared.job.Work.{Work}
use Rattle.glacier_vault.specs.declared.job.Work.TheVariants as works
use Rattle.glacier_vault.specs.declared.lock.Lock.{Lock}
use Rattle.glacier_vault.specs.declared.state.VaultState.{VaultState}

-- a text and its length, of 2 bytes
abbrev pub text_length : List ℕ → ℕ
text_length text = 2 + length text

-- leaves and their count, of 4 bytes
abbrev pub leaves_length : List (List ℕ) → ℕ
leaves_length leaves = 4 + 32 * length leaves

-- the account's record: a frame of 5 bytes, the kind, the account's 12 digits, the moment, and the counter
abbrev pub account_length : ℕ
account_length = 34

-- a vault's record has its name and the name's length in place of the counter, and all others begin so too
abbrev pub vault_length : ℕ → ℕ
vault_length n = 27 + n

-- a live or a held archive: its number, a flag, its size, its description, its leaves, and its blobs with their count, each with a count of runs
abbrev pub archive_length : ℕ → Archive → ℕ
archive_length n archive = vault_length n + 17 + text_length archive.description + leaves_length archive.leaves + 4 + 12 * length archive.blobs

-- an open upload without its parts: its number, the size of its parts, its description
abbrev pub upload_length : ℕ → Upload → ℕ
upload_length n upload = vault_length n + 16 + text_length upload.description

-- a part: the upload, its index, its size, its blob, its leaves, and a count of runs
abbrev pub part_length : ℕ → Part → ℕ
part_length n part = vault_length n + 28 + leaves_length part.leaves + 4

-- a finished upload: its number, its size, its tree hash, its archive
abbrev pub finished_length : ℕ → ℕ
finished_length n = vault_length n + 56

-- a digest that may be there
abbrev pub range_length : Option (List ℕ) → ℕ
range_length None = 0
range_length (Some digest) = 32

-- what a job asks for: 0, the archive, its size, its tree hash, the first place, the end, a flag, and a digest; or 1 and a flag
abbrev pub work_length : Work → ℕ
work_length (works.Archive archive size tree first end range) = 66 + range_length range
work_length (works.Inventory csv) = 2

-- a line: the job, the archive, its size, when it was made, its description, its tree hash
abbrev pub line_length : ℕ → Line → ℕ
line_length n line = vault_length n + 64 + text_length line.description

-- the lines that a job has
abbrev pub lines_length : ℕ → Stage → ℕ
lines_length n stages.Waiting = 0
lines_length n stages.Failed = 0
lines_length n (stages.Done lines) = sum_by (line_length n) lines

-- a job without its lines: its number, when it is ready, its tier, how far it is, its description, what it asks for
abbrev pub job_record_length : ℕ → Job → ℕ
job_record_length n job = vault_length n + 18 + text_length job.description + work_length job.work

-- a job with its lines
abbrev pub job_length : ℕ → Job → ℕ
job_length n job = job_record_length n job + lines_length n job.stage

-- a lock: its number, a flag, its policy
abbrev pub lock_length : ℕ → Lock → ℕ
lock_length n lock = vault_length n + 9 + text_length lock.text

-- what is in a vault of a name of so many bytes
abbrev pub lengths : ℕ → Weight
lengths n = record {
  vault = vault_length n;
  archive = archive_length n;
  part = part_length n;
  upload = upload_length n;
  finished = λ finished. finished_length n;
  job = job_length n;
  lock = lock_length n;
}

-- a vault with all that it holds
abbrev pub length_of_vault : List ℕ → VaultState → ℕ
length_of_vault name vault = vault_total (lengths (length name)) vault

-- the records of an account's snapshot
abbrev pub snapshot_length : Vaults → ℕ
snapshot_length vaults = account_length + sum_by (λ e. length_of_vault e.0 e.1) (map.entries vaults)
