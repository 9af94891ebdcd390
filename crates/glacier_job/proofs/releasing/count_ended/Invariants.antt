use Rattle.std.proofs.Common.{◌≡◌, ◌+◌}
use Rattle.std.specs.Prelude.{count_by}
use Rattle.std.specs.FinMap as map
use Rattle.glacier_job.specs.Pass.{is_past}
use Rattle.glacier_job.proofs.releasing.count_ended.Given as goal

abbrev pub invariant-loop-job : goal.invariant-loop-job
invariant-loop-job l = l.count + count_by (λ job. is_past l.m job.ready) l.job-iterator ≡ count_by (λ job. is_past l.m job.ready) (map.values l.jobs)
