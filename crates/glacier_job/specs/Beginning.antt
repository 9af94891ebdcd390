-- The beginning of a job.
use Rattle.std.specs.Prelude.{ℕ, ◌+◌, List, Option, Some, None, Result, Ok, Err, if◌then◌else◌, nat_le, min, slice_index}
use Rattle.std.specs.FinMap as map
use Rattle.glacier_base.specs.declared.moment.TheConstants.{LAST_MOMENT}
use Rattle.glacier_vault.specs.Due.{sooner, job_due}
use Rattle.glacier_vault.specs.Lawful.{IsLawfulJob}
use Rattle.glacier_vault.specs.Rows.{Row, changed, draw_refusal, drawn, in_vault}
use Rattle.glacier_vault.specs.declared.event.Change.{Change}
use Rattle.glacier_vault.specs.declared.event.Event.{Event}
use Rattle.glacier_vault.specs.declared.event.Event.TheVariants as events
use Rattle.glacier_vault.specs.declared.job.Job.{Job}
use Rattle.glacier_vault.specs.declared.job.Stage.TheVariants.{Waiting}
use Rattle.glacier_vault.specs.declared.job.Tier.{Tier}
use Rattle.glacier_vault.specs.declared.job.Tier.TheVariants.{Expedited, Standard, Bulk}
use Rattle.glacier_vault.specs.declared.job.Work.{Work}
use Rattle.glacier_vault.specs.declared.job.Work.TheVariants as works
use Rattle.glacier_vault.specs.declared.refusal.Refusal.{Refusal}
use Rattle.glacier_vault.specs.declared.refusal.Refusal.TheVariants.{NoVault, JobLimit}
use Rattle.glacier_vault.specs.declared.rules.Rules.{Rules}
use Rattle.glacier_vault.specs.declared.state.AccountState.{AccountState}
use Rattle.glacier_vault.specs.declared.state.VaultState.{VaultState}
use Rattle.glacier_job.specs.Work.{work_of}
use Rattle.glacier_job.specs.declared.asks.JobAsk.{JobAsk}
use Rattle.glacier_job.specs.declared.beginning.TheConstants.{MOST_JOBS}

-- how many seconds a job of a tier takes
abbrev pub delay : List ℕ → Tier → ℕ
delay delays Expedited = slice_index delays 0
delay delays Standard = slice_index delays 1
delay delays Bulk = slice_index delays 2

-- when a job that begins at the moment m is ready
abbrev pub ready_at : Rules → ℕ → Tier → ℕ
ready_at rules m tier = min (m + delay rules.delays tier) LAST_MOMENT

-- why no further job begins
abbrev pub limit_refusal : AccountState → Option Refusal
limit_refusal account = if nat_le MOST_JOBS account.jobs then Some JobLimit else draw_refusal account

-- what the job that is asked for works on, or why it isn't begun
abbrev pub accepted_work : AccountState → JobAsk → Result Work Refusal
accepted_work account ask = elim (map.get account.vaults ask.vault) [
  | None ↦ Err (NoVault ask.vault)
  | Some vault ↦ elim (work_of vault ask.kind) [
    | Err refusal ↦ Err refusal
    | Ok work ↦ elim (limit_refusal account) [ Some refusal ↦ Err refusal | None ↦ Ok work ]
  ]
]

abbrev pub new_job : Rules → ℕ → JobAsk → Work → Job
new_job rules m ask work = record {
  created = m;
  ready = ready_at rules m ask.tier;
  tier = ask.tier;
  description = ask.description;
  work = work;
  stage = Waiting;
}

-- the vault with one more job that waits
abbrev pub with_job : ℕ → Job → VaultState → VaultState
with_job number job vault = record vault {
  jobs = map.insert vault.jobs number job;
  due = sooner vault.due (job_due job);
}

-- the account in which the vault of a name has one more job, under the account's next number
abbrev pub after_put : AccountState → ℕ → List ℕ → Job → AccountState
after_put account m name job = in_vault (drawn account) m name (with_job account.counter job)

-- a vault of the name is there, and the job is lawful in it
abbrev pub FitsIn : AccountState → ℕ → List ℕ → Job → Type 0
FitsIn account m name job = elim (map.get account.vaults name) [
  | None ↦ ⊥
  | Some vault ↦ IsLawfulJob (account.counter + 1) m vault.archives vault.held job
]

-- the event of a job's beginning
abbrev pub begin_event : JobAsk → ℕ → Work → Event
begin_event ask ready (works.Archive archive size tree first end range) =
    events.BeginRetrieval ask.vault archive first end ask.tier ready ask.description
begin_event ask ready (works.Inventory csv) = events.BeginInventory ask.vault csv ask.tier ready ask.description

-- POST of a job
abbrev pub begin_row : Rules → AccountState → ℕ → JobAsk → Row Change
begin_row rules account m ask = elim (accepted_work account ask) [
  | Err refusal ↦ Err refusal
  | Ok work ↦ Ok (
    after_put account m ask.vault (new_job rules m ask work),
    changed (begin_event ask (ready_at rules m ask.tier) work),
  )
]
