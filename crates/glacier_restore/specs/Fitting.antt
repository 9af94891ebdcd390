-- Where a vault takes an item of a snapshot in (docs/rules/snapshots.md).
use Rattle.std.specs.Prelude.{ℕ, Bool, true, false, not, ◌&&◌, ◌||◌, ◌-◌, List, [], ◌∷◌, length, is_none, Option, Some, None, nat_eq, nat_lt, nat_le}
use Rattle.std.specs.FinMap as map
use Rattle.std.specs.List.{list_any, slice_get}
use Rattle.glacier_vault.specs.Named.{is_done}
use Rattle.glacier_vault.specs.PartSizes.{is_part_size, last_index}
use Rattle.glacier_vault.specs.Totals.{need}
use Rattle.glacier_vault.specs.declared.archive.Archive.{Archive}
use Rattle.glacier_vault.specs.declared.archive.Finished.{Finished}
use Rattle.glacier_vault.specs.declared.archive.Part.{Part}
use Rattle.glacier_vault.specs.declared.archive.Upload.{Upload}
use Rattle.glacier_vault.specs.declared.job.Job.{Job}
use Rattle.glacier_vault.specs.declared.job.Line.{Line}
use Rattle.glacier_vault.specs.declared.job.Stage.{Stage}
use Rattle.glacier_vault.specs.declared.job.Stage.TheVariants as stages
use Rattle.glacier_vault.specs.declared.job.Work.{Work}
use Rattle.glacier_vault.specs.declared.job.Work.TheVariants as works
use Rattle.glacier_vault.specs.declared.lock.Lock.{Lock}
use Rattle.glacier_vault.specs.declared.state.AccountState.{AccountState}
use Rattle.glacier_vault.specs.declared.state.VaultState.{VaultState}

-- the account that was never seen, which a snapshot's first item is put into
abbrev pub is_unseen : AccountState → Bool
is_unseen a = nat_eq a.last 0 && nat_eq a.counter 0 && nat_eq (map.len a.vaults) 0

-- the number was drawn, and what has it was made at the account's last moment or before
abbrev pub is_past : AccountState → ℕ → ℕ → Bool
is_past a m number = nat_lt number a.counter && nat_le m a.last

-- a body has a byte, and a leaf for each MiB that it begins
abbrev pub is_body : ℕ → List (List ℕ) → Bool
is_body size leaves = nat_le 1 size && nat_eq (length leaves) (need size)

-- numbers that were drawn, none of them twice
abbrev pub are_apart : ℕ → List ℕ → Bool
are_apart counter [] = true
are_apart counter (n ∷ ns) = nat_lt n counter && not (list_any (λ y. nat_eq y n) ns) && are_apart counter ns

abbrev pub has_archive : VaultState → ℕ → Bool
has_archive vault number = map.contains_key vault.archives number || map.contains_key vault.held number

abbrev pub has_upload : VaultState → ℕ → Bool
has_upload vault number = map.contains_key vault.uploads number || map.contains_key vault.finished number

-- an archive comes before the jobs, and has a blob
abbrev pub takes_archive : AccountState → ℕ → Archive → VaultState → Bool
takes_archive a number archive vault =
    is_past a archive.created number && nat_le 1 (length archive.blobs) && are_apart a.counter archive.blobs
    && nat_eq (map.len vault.jobs) 0 && not (has_archive vault number)

abbrev pub takes_upload : AccountState → ℕ → Upload → VaultState → Bool
takes_upload a number upload vault =
    is_past a upload.created number && is_part_size upload.part_size && not (has_upload vault number)

-- an upload takes a part in at an index
abbrev pub takes_part : AccountState → ℕ → Part → Upload → Bool
takes_part a index part upload =
    nat_le index last_index && nat_le part.size upload.part_size && nat_lt part.blob a.counter && not (map.contains_key upload.parts index)

-- the open upload of a number does
abbrev pub upload_takes : AccountState → ℕ → ℕ → Part → VaultState → Bool
upload_takes a number index part vault = elim (map.get vault.uploads number) [ None ↦ false | Some upload ↦ takes_part a index part upload ]

abbrev pub takes_finished : AccountState → ℕ → Finished → VaultState → Bool
takes_finished a number finished vault =
    is_past a finished.at number && nat_le 1 finished.size && not (has_upload vault number)

-- an archive, if it is there, has this size
abbrev pub has_size : ℕ → Option Archive → Bool
has_size size None = true
has_size size (Some archive) = nat_eq archive.size size

-- a retrieval asks for bytes of an archive of its size, if it is still there; for one that is done it is
abbrev pub is_work : AccountState → VaultState → Stage → Work → Bool
is_work a vault stage (works.Archive archive size tree first end range) =
    nat_lt archive a.counter && nat_lt first end && nat_le end size
    && has_size size (map.get vault.archives archive) && has_size size (map.get vault.held archive)
    && (not (is_done stage) || has_archive vault archive)
is_work a vault stage (works.Inventory csv) = true

abbrev pub takes_job : AccountState → ℕ → Job → VaultState → Bool
takes_job a number job vault =
    is_past a job.created number && is_work a vault job.stage job.work && not (map.contains_key vault.jobs number)

-- an archive's number is above that of the last line, and so of each
abbrev pub is_above : ℕ → List Line → Bool
is_above archive lines = elim (slice_get lines (length lines - 1)) [ None ↦ true | Some line ↦ nat_lt line.archive archive ]

-- an inventory that is done takes a line in
abbrev pub takes_line : Line → Work → Stage → Bool
takes_line line (works.Inventory csv) (stages.Done lines) = nat_le 1 line.size && is_above line.archive lines
takes_line line work stage = false

-- the job of a number does
abbrev pub job_takes : ℕ → Line → VaultState → Bool
job_takes number line vault = elim (map.get vault.jobs number) [ None ↦ false | Some job ↦ takes_line line job.work job.stage ]

abbrev pub takes_lock : AccountState → Lock → VaultState → Bool
takes_lock a lock vault = is_past a lock.created lock.number && is_none vault.lock
