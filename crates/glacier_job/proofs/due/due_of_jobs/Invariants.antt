use Rattle.std.proofs.Common.{◌≡◌}
use Rattle.std.specs.FinMap as map
use Rattle.glacier_vault.specs.Due.{sooner, soonest, job_due}
use Rattle.glacier_job.proofs.due.due_of_jobs.Given as goal

abbrev pub invariant-loop-job : goal.invariant-loop-job
invariant-loop-job l = sooner l.due (soonest job_due l.job-iterator) ≡ soonest job_due (map.values l.jobs)
