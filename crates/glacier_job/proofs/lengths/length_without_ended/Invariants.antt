use Rattle.std.proofs.Common.{◌≡◌, ◌+◌}
use Rattle.std.specs.Prelude.{sum_by, filter}
use Rattle.std.specs.FinMap.{values}
use Rattle.glacier_vault.specs.Lengths.{job_length}
use Rattle.glacier_job.specs.Pass.{has_ended}
use Rattle.glacier_job.proofs.lengths.length_without_ended.Given as goal

abbrev pub invariant-loop-job : goal.invariant-loop-job
invariant-loop-job l =
    l.left + sum_by (job_length l.n) (filter (has_ended l.m) (values l.jobs))
    ≡ l.fn.left + sum_by (job_length l.n) (filter (has_ended l.m) l.job-iterator)
