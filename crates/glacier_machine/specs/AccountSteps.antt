-- What each action does to an account.
use Rattle.std.specs.Prelude.{ℕ, List, [], Option, None, Result, Ok, Err}
use Rattle.glacier_replies.specs.Replies.{refused, created, deleted, described}
use Rattle.glacier_upload.specs.Single.{upload_refusal}
use Rattle.glacier_vault.specs.Deletions.{delete_row}
use Rattle.glacier_vault.specs.Rows.{create_row, found}
use Rattle.glacier_vault.specs.declared.refusal.Refusal.{Refusal}
use Rattle.glacier_vault.specs.declared.rules.Rules.{Rules}
use Rattle.glacier_vault.specs.declared.state.AccountState.{AccountState}
use Rattle.glacier_machine.specs.ArchiveSteps.{archive_step, delete_archive_step}
use Rattle.glacier_machine.specs.JobSteps.{begin_job_step, describe_job_step, job_output_step}
use Rattle.glacier_machine.specs.Steps.{Step, only_replies, by_row, by_look}
use Rattle.glacier_machine.specs.declared.action.Action.{Action}
use Rattle.glacier_machine.specs.declared.action.Action.TheVariants.{CreateVault, DescribeVault, DeleteVault, Upload, DeleteArchive, BeginJob, DescribeJob, JobOutput}

-- why an action is refused before its body is taken
abbrev pub admission_refusal : Rules → AccountState → Action → Option Refusal
admission_refusal rules before (Upload ask) = upload_refusal rules.quota before ask
admission_refusal rules before _ = None

-- the step of an action with this body at the moment m. Only an upload looks at the body. An inventory is shown with
-- no byte, and its output is empty
abbrev pub step_of : Rules → ℕ → Action → List ℕ → AccountState → Step
step_of rules m (CreateVault name) body before = by_row before (create_row before m name) (created rules name)
step_of rules m (DescribeVault name) body before = by_look before (found before name) (described rules name)
step_of rules m (DeleteVault name) body before = by_row before (delete_row before m name) deleted
step_of rules m (Upload ask) body before = archive_step rules m ask body before
step_of rules m (DeleteArchive name archive) body before = delete_archive_step rules m name archive before
step_of rules m (BeginJob ask) body before = begin_job_step rules m ask before
step_of rules m (DescribeJob name job) body before = describe_job_step rules name job 0 before
step_of rules m (JobOutput name job range) body before = job_output_step name job range [] before

-- the step of what is asked at the moment m: what is refused only gets its reply
abbrev pub asked_step : Rules → ℕ → Result Action Refusal → List ℕ → AccountState → Step
asked_step rules m (Ok action) body before = step_of rules m action body before
asked_step rules m (Err refusal) body before = only_replies before (refused refusal)
