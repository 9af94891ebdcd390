use Rattle.std.proofs.Common.{◌≡◌, ◌+◌}
use Rattle.std.specs.Prelude.{sum_by}
use Rattle.std.specs.FinMap.{values}
use Rattle.glacier_vault.specs.Lengths.{job_length}
use Rattle.glacier_vault.proofs.lengths.without_jobs.Given as goal

abbrev pub invariant-loop-job : goal.invariant-loop-job
invariant-loop-job l = l.left + sum_by (job_length l.n) (values l.jobs) ≡ l.fn.left + sum_by (job_length l.n) l.job-iterator
