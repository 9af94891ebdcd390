use Rattle.std.proofs.Common.{◌≡◌, ◌+◌}
use Rattle.std.specs.Prelude.{sum_by}
use Rattle.std.specs.FinMap.{values}
use Rattle.glacier_vault.specs.Lengths.{part_length}
use Rattle.glacier_vault.proofs.lengths.without_parts.Given as goal

abbrev pub invariant-loop-part : goal.invariant-loop-part
invariant-loop-part l = l.left + sum_by (part_length l.n) (values l.parts) ≡ l.fn.left + sum_by (part_length l.n) l.part-iterator
