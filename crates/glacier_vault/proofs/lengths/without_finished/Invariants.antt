use Rattle.std.proofs.Common.{◌≡◌, ◌+◌}
use Rattle.std.specs.Prelude.{sum_by}
use Rattle.std.specs.FinMap.{values}
use Rattle.glacier_vault.specs.Lengths.{finished_length}
use Rattle.glacier_vault.proofs.lengths.without_finished.Given as goal

abbrev pub invariant-loop-upload : goal.invariant-loop-upload
invariant-loop-upload l = l.left + sum_by (λ _. finished_length l.n) (values l.finished) ≡ l.fn.left + sum_by (λ _. finished_length l.n) l._upload-iterator
