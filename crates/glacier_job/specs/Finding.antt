-- What is shown of jobs: one, a page of them, and where a range lies in a job's output.
use Rattle.std.specs.Prelude.{ℕ, ◌+◌, Bool, true, not, ◌&&◌, List, Option, Some, None, Result, Ok, Err, if◌then◌else◌, nat_lt, map as each, filter, unwrap_or}
use Rattle.std.specs.FinMap as map
use Rattle.std.specs.Ordering.{nat_cmp, is_le}
use Rattle.glacier_vault.specs.Named.{is_done, is_waiting}
use Rattle.glacier_vault.specs.declared.job.Job.{Job}
use Rattle.glacier_vault.specs.declared.job.Stage.{Stage}
use Rattle.glacier_vault.specs.declared.job.Stage.TheVariants as stages
use Rattle.glacier_vault.specs.declared.refusal.Refusal.{Refusal}
use Rattle.glacier_vault.specs.declared.refusal.Refusal.TheVariants.{NoVault, NoJob, NotReady, JobFailed, BadByteRange}
use Rattle.glacier_vault.specs.declared.state.AccountState.{AccountState}
use Rattle.glacier_vault.specs.declared.state.VaultState.{VaultState}
use Rattle.glacier_job.specs.declared.asks.StageName.{StageName}
use Rattle.glacier_job.specs.declared.asks.StageName.TheVariants.{InProgress, Succeeded, Failed}

-- GET of a job
abbrev pub found_job : AccountState → List ℕ → ℕ → Result Job Refusal
found_job account name number = elim (map.get account.vaults name) [
  | None ↦ Err (NoVault name)
  | Some vault ↦ elim (map.get vault.jobs number) [ None ↦ Err (NoJob number) | Some job ↦ Ok job ]
]

-- whether a stage is shown by a name
abbrev pub is_shown : StageName → Stage → Bool
is_shown InProgress stage = is_waiting stage
is_shown Succeeded stage = is_done stage
is_shown Failed stage = not (is_waiting stage) && not (is_done stage)

-- a job is completed once it is settled
abbrev pub fits_completed : Option Bool → Stage → Bool
fits_completed None stage = true
fits_completed (Some completed) stage = if completed then not (is_waiting stage) else is_waiting stage

abbrev pub fits_name : Option StageName → Stage → Bool
fits_name None stage = true
fits_name (Some name) stage = is_shown name stage

-- whether a job fits both filters
abbrev pub fits : Option Bool → Option StageName → Job → Bool
fits completed name job = fits_completed completed job.stage && fits_name name job.stage

-- the numbers of a vault's jobs that fit both filters, from the first that isn't below the marker
abbrev pub jobs_from : Option Bool → Option StageName → Option ℕ → VaultState → List ℕ
jobs_from completed name from vault =
    each (λ e. e.0) (filter (λ e. fits completed name e.1) (filter (λ e. is_le (nat_cmp (unwrap_or from 0) e.0)) (map.entries vault.jobs)))

-- a range within an output of so many bytes
abbrev pub range_within : ℕ → Option (ℕ × ℕ) → Result (ℕ × ℕ) Refusal
range_within length None = Ok (0, length)
range_within length (Some range) = if nat_lt range.1 length then Ok (range.0, range.1 + 1) else Err (BadByteRange length)

-- GET of a job's output: where it begins and ends in the whole output
abbrev pub output_of : Job → ℕ → Option (ℕ × ℕ) → Result (ℕ × ℕ) Refusal
output_of job length range = elim job.stage [
  | stages.Waiting ↦ Err (NotReady job.ready)
  | stages.Failed ↦ Err JobFailed
  | stages.Done lines ↦ range_within length range
]
