use Rattle.std.proofs.Common.{◌≡◌, ◌+◌}
use Rattle.std.specs.Prelude.{sum_by, filter}
use Rattle.std.specs.FinMap.{values}
use Rattle.glacier_vault.specs.Lengths.{finished_length}
use Rattle.glacier_job.specs.Pass.{is_past}
use Rattle.glacier_job.proofs.lengths.length_without_past.Given as goal

abbrev pub invariant-loop-upload : goal.invariant-loop-upload
invariant-loop-upload l =
    l.left + sum_by (λ _. finished_length l.n) (filter (λ upload. is_past l.m upload.at) (values l.finished))
    ≡ l.fn.left + sum_by (λ _. finished_length l.n) (filter (λ upload. is_past l.m upload.at) l.upload-iterator)
