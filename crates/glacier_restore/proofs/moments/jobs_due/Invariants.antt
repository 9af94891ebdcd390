use Rattle.std.proofs.Common.{◌≡◌}
use Rattle.std.specs.FinMap as map
use Rattle.glacier_vault.specs.Due.{sooner, soonest, job_due}
use Rattle.glacier_restore.proofs.moments.jobs_due.Given as goal

abbrev pub invariant-loop-job : goal.invariant-loop-job
invariant-loop-job l = sooner l.soonest (soonest job_due l.job-iterator) ≡ soonest job_due (map.values l.jobs)
