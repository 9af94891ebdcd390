-- What a moment does to an account: ready jobs are settled, and what has ended goes.
use Rattle.std.specs.Prelude.{ℕ, ◌+◌, Bool, false, not, ◌&&◌, ◌||◌, List, [], Option, Some, None, if◌then◌else◌, nat_le, sum_by, count_by, map as each, filter}
use Rattle.std.specs.FinMap as map
use Rattle.std.specs.List.{list_any, flat_map}
use Rattle.std.specs.Ordering.{nat_cmp}
use Rattle.glacier_base.specs.Maps.{map_values, where_entries}
use Rattle.glacier_vault.specs.Due.{content_due}
use Rattle.glacier_vault.specs.Named.{is_named, is_waiting, blobs_of}
use Rattle.glacier_vault.specs.Rows.{with_vaults, with_jobs}
use Rattle.glacier_vault.specs.Totals.{Archives, blocks}
use Rattle.glacier_vault.specs.declared.archive.Archive.{Archive}
use Rattle.glacier_vault.specs.declared.archive.Finished.{Finished}
use Rattle.glacier_vault.specs.declared.due.TheConstants.{DAY}
use Rattle.glacier_vault.specs.declared.event.Change.{Change}
use Rattle.glacier_vault.specs.declared.event.Event.TheVariants as events
use Rattle.glacier_vault.specs.declared.job.Job.{Job}
use Rattle.glacier_vault.specs.declared.job.Line.{Line}
use Rattle.glacier_vault.specs.declared.job.Stage.{Stage}
use Rattle.glacier_vault.specs.declared.job.Stage.TheVariants.{Waiting, Failed, Done}
use Rattle.glacier_vault.specs.declared.job.Work.{Work}
use Rattle.glacier_vault.specs.declared.job.Work.TheVariants as works
use Rattle.glacier_vault.specs.declared.lock.Lock.{Lock}
use Rattle.glacier_vault.specs.declared.state.AccountState.{AccountState}
use Rattle.glacier_vault.specs.declared.state.VaultState.{VaultState}

abbrev pub line_of : ℕ → Archive → Line
line_of number archive = record {
  archive = number;
  size = archive.size;
  created = archive.created;
  description = archive.description;
  tree = archive.tree;
}

-- an inventory: one line for each live archive, in the order of their numbers
abbrev pub lines : Archives → List Line
lines archives = each (λ e. line_of e.0 e.1) (map.entries archives)

-- how what a job asks for comes out: a retrieval fails where its archive isn't live
abbrev pub outcome : Archives → Work → Stage
outcome archives (works.Archive archive size tree first end range) = if map.contains_key archives archive then Done [] else Failed
outcome archives (works.Inventory csv) = Done (lines archives)

-- a job that waits is settled when it is ready
abbrev pub stage_at : ℕ → Archives → Job → Stage
stage_at m archives job = elim job.stage [
  | Waiting ↦ if nat_le job.ready m then outcome archives job.work else Waiting
  | Failed ↦ Failed
  | Done found ↦ Done found
]

abbrev pub settled : ℕ → Archives → Job → Job
settled m archives job = record job { stage = stage_at m archives job }

-- whether a day has passed since then
abbrev pub is_past : ℕ → ℕ → Bool
is_past m since = nat_le (since + DAY) m

-- a settled job ends a day after it was ready
abbrev pub has_ended : ℕ → Job → Bool
has_ended m job = not (is_waiting job.stage) && is_past m job.ready

abbrev pub jobs_after : ℕ → VaultState → map.FinMap nat_cmp Job
jobs_after m vault = where_entries (λ _ job. not (has_ended m job)) (map_values (settled m vault.archives) vault.jobs)

-- a held archive goes once no finished job names it
abbrev pub held_after : ℕ → VaultState → Archives
held_after m vault = where_entries (λ number _. is_named (jobs_after m vault) number) vault.held

-- a finished upload is kept for a day
abbrev pub finished_after : ℕ → map.FinMap nat_cmp Finished → map.FinMap nat_cmp Finished
finished_after m finished = where_entries (λ _ upload. not (is_past m upload.at)) finished

-- a lock in progress ends a day after it was made
abbrev pub lock_ends : ℕ → Lock → Bool
lock_ends m lock = not lock.locked && is_past m lock.created

abbrev pub lock_after : ℕ → Option Lock → Option Lock
lock_after m None = None
lock_after m (Some lock) = if lock_ends m lock then None else Some lock

-- what the moment leaves in a vault
abbrev pub left_in : ℕ → VaultState → VaultState
left_in m vault = record (with_jobs vault (jobs_after m vault)) {
  held = held_after m vault;
  finished = finished_after m vault.finished;
  lock = lock_after m vault.lock;
}

-- the vault with that, and with the moment that is due in it
abbrev pub passed : ℕ → VaultState → VaultState
passed m vault = record (left_in m vault) { due = content_due (left_in m vault) }

-- the account at the moment m
abbrev pub pass : ℕ → AccountState → AccountState
pass m account = with_vaults account m (map_values (passed m) account.vaults)

-- the held archives that go from a vault, in the order of their numbers
abbrev pub dropped : ℕ → VaultState → List Archive
dropped m vault = each (λ e. e.1) (filter (λ e. not (is_named (jobs_after m vault) e.0)) (map.entries vault.held))

-- how many blocks they take
abbrev pub room_in : ℕ → VaultState → ℕ
room_in m vault = sum_by blocks.archive (dropped m vault)

-- how many jobs go from a vault
abbrev pub ended_in : ℕ → VaultState → ℕ
ended_in m vault = count_by (λ job. is_past m job.ready) (map.values vault.jobs)

-- the blobs that nothing names any more
abbrev pub freed : ℕ → AccountState → List ℕ
freed m account = flat_map (λ vault. blobs_of (dropped m vault)) (map.values account.vaults)

-- whether the moment settles or ends something in a vault
abbrev pub job_is_due : ℕ → Job → Bool
job_is_due m job = if is_waiting job.stage then nat_le job.ready m else is_past m job.ready

abbrev pub lock_is_due : ℕ → Option Lock → Bool
lock_is_due m None = false
lock_is_due m (Some lock) = lock_ends m lock

abbrev pub vault_is_due : ℕ → VaultState → Bool
vault_is_due m vault =
    list_any (job_is_due m) (map.values vault.jobs)
    || list_any (λ upload. is_past m upload.at) (map.values vault.finished)
    || lock_is_due m vault.lock
    || list_any (λ number. not (is_named vault.jobs number)) (map.keys vault.held)

abbrev pub pass_is_event : ℕ → AccountState → Bool
pass_is_event m account = list_any (vault_is_due m) (map.values account.vaults)

-- what the moment changes: it is an event where it changes more than the last moment
abbrev pub pass_change : ℕ → AccountState → Change
pass_change m account = record {
  event = if pass_is_event m account then Some events.Pass else None;
  freed = freed m account;
}
