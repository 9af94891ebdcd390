-- Which bytes are the output of a job.
use Rattle.std.specs.Prelude.{◌≡◌, ◌≤◌, ℕ, List, Option, Some, Ok}
use Rattle.glacier_job.specs.Finding.{found_job}
use Rattle.glacier_vault.specs.declared.archive.Archive.{Archive}
use Rattle.glacier_vault.specs.declared.job.Job.{Job}
use Rattle.glacier_vault.specs.declared.job.Work.TheVariants as works
use Rattle.glacier_vault.specs.declared.state.AccountState.{AccountState}
use Rattle.glacier_machine.specs.JobSteps.{stored_archive}
use Rattle.glacier_machine.specs.declared.action.Stretch.{Stretch}

-- a stretch of an archive of the vault, live or held, from within the bytes that the job of a number asks for
pub record IsOutputOf (account : AccountState) (name : List ℕ) (number : ℕ) (stretch : Stretch) : Type 0 where
  pub job : Job
  pub found : found_job account name number ≡ Ok job
  pub size : ℕ
  pub tree : List ℕ
  pub first : ℕ
  pub end : ℕ
  pub range : Option (List ℕ)
  pub work : job.work ≡ works.Archive stretch.archive size tree first end range
  pub archive : Archive
  pub stored : stored_archive account stretch.vault stretch.archive ≡ Some archive
  pub vault : stretch.vault ≡ name
  pub from : first ≤ stretch.first
  pub order : stretch.first ≤ stretch.end
  pub to : stretch.end ≤ end
  pub within : stretch.end ≤ archive.size
