-- The items of an account's part of a snapshot in their order, and what items make one after another (docs/rules/snapshots.md).
use Rattle.std.specs.Prelude.{ℕ, false, true, List, [], ◌∷◌, ◌++◌, Option, Some, None, sum_by, map as each}
use Rattle.std.specs.FinMap as map
use Rattle.std.specs.List.{flat_map}
use Rattle.std.specs.declared.cmp.Ordering.{Ordering}
use Rattle.glacier_extents.specs.declared.run.Run.{Run}
use Rattle.glacier_vault.specs.declared.archive.Archive.{Archive}
use Rattle.glacier_vault.specs.declared.archive.Finished.{Finished}
use Rattle.glacier_vault.specs.declared.archive.Part.{Part}
use Rattle.glacier_vault.specs.declared.archive.Upload.{Upload}
use Rattle.glacier_vault.specs.declared.job.Job.{Job}
use Rattle.glacier_vault.specs.declared.job.Line.{Line}
use Rattle.glacier_vault.specs.declared.job.Stage.{Stage}
use Rattle.glacier_vault.specs.declared.job.Stage.TheVariants as stages
use Rattle.glacier_vault.specs.declared.lock.Lock.{Lock}
use Rattle.glacier_vault.specs.declared.state.AccountState.{AccountState}
use Rattle.glacier_vault.specs.declared.state.VaultState.{VaultState}
use Rattle.glacier_records.specs.KeptLengths.{kept_length}
use Rattle.glacier_records.specs.declared.kept.Blob.{Blob}
use Rattle.glacier_records.specs.declared.kept.Kept.{Kept}
use Rattle.glacier_records.specs.declared.kept.Kept.TheVariants as kept
use Rattle.glacier_records.specs.declared.kept.StageName.{StageName}
use Rattle.glacier_records.specs.declared.kept.StageName.TheVariants as stage_names
use Rattle.glacier_restore.specs.Restoring.{restored}

-- items, each with its moment
abbrev pub Items : Type 0
Items = List (ℕ × Kept)

-- how many bytes their records take in a journal, where runs count for nothing
abbrev pub items_length : Items → ℕ
items_length items = sum_by (λ item. kept_length item.1) items

-- what items make of an account one after another, or None where one doesn't fit
abbrev pub put_all : AccountState → Items → Option AccountState
put_all a [] = Some a
put_all a (item ∷ items) = elim (restored a item.0 item.1) [ None ↦ None | Some next ↦ put_all next items ]

-- the items of each entry of a map, in the order of its keys
abbrev pub of_each : {K X : Type 0} {R : K → K → Ordering} → (K → X → Items) → map.FinMap R X → Items
of_each items m = flat_map (λ e. items e.0 e.1) (map.entries m)

abbrev pub stage_name : Stage → StageName
stage_name stages.Waiting = stage_names.Waiting
stage_name stages.Failed = stage_names.Failed
stage_name (stages.Done lines) = stage_names.Done

abbrev pub lines_of : Stage → List Line
lines_of stages.Waiting = []
lines_of stages.Failed = []
lines_of (stages.Done lines) = lines

-- the blobs of these numbers, where each lies by the runs
abbrev pub with_runs : (ℕ → List Run) → List ℕ → List Blob
with_runs runs numbers = each (λ n. record { number = n; runs = runs n }) numbers

abbrev pub archive_items : (ℕ → List Run) → List ℕ → ℕ → Archive → Items
archive_items runs name number x = (x.created, kept.Archive name number false x.size x.description x.leaves (with_runs runs x.blobs)) ∷ []

abbrev pub held_items : (ℕ → List Run) → List ℕ → ℕ → Archive → Items
held_items runs name number x = (x.created, kept.Archive name number true x.size x.description x.leaves (with_runs runs x.blobs)) ∷ []

abbrev pub part_items : (ℕ → List Run) → List ℕ → ℕ → ℕ → Part → Items
part_items runs name upload index x = (0, kept.OpenPart name upload index x.size x.blob x.leaves (runs x.blob)) ∷ []

-- an open upload, and its parts behind it
abbrev pub upload_items : (ℕ → List Run) → List ℕ → ℕ → Upload → Items
upload_items runs name number x =
    (x.created, kept.OpenUpload name number x.part_size x.description) ∷ of_each (part_items runs name number) x.parts

abbrev pub finished_items : List ℕ → ℕ → Finished → Items
finished_items name number x = (x.at, kept.Finished name number x.size x.tree x.archive) ∷ []

abbrev pub line_items : List ℕ → ℕ → Line → Items
line_items name number x = (0, kept.Line name number x.archive x.size x.created x.description x.tree) ∷ []

-- a job, and its lines behind it
abbrev pub job_items : List ℕ → ℕ → Job → Items
job_items name number x =
    (x.created, kept.Job name number x.ready x.tier (stage_name x.stage) x.description x.work)
    ∷ flat_map (line_items name number) (lines_of x.stage)

abbrev pub lock_items : List ℕ → Option Lock → Items
lock_items name None = []
lock_items name (Some x) = (x.created, kept.Lock name x.number x.locked x.text) ∷ []

-- what a vault holds
abbrev pub held_in : (ℕ → List Run) → List ℕ → VaultState → Items
held_in runs name x =
    of_each (archive_items runs name) x.archives
    ++ (of_each (held_items runs name) x.held
    ++ (of_each (upload_items runs name) x.uploads
    ++ (of_each (finished_items name) x.finished
    ++ (of_each (job_items name) x.jobs
    ++ lock_items name x.lock))))

abbrev pub vault_items : (ℕ → List Run) → List ℕ → VaultState → Items
vault_items runs name x = (x.created, kept.Vault name) ∷ held_in runs name x

-- the account's part of a snapshot, its blobs lying by the runs
abbrev pub snapshot_items : (ℕ → List Run) → AccountState → Items
snapshot_items runs a = (a.last, kept.Account a.counter) ∷ of_each (vault_items runs) a.vaults
