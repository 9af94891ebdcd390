use Rattle.std.proofs.Common.{◌≡◌, ◌+◌}
use Rattle.std.specs.Prelude.{sum_by}
use Rattle.std.specs.FinMap.{values}
use Rattle.glacier_vault.specs.Totals.{blocks}
use Rattle.glacier_vault.proofs.deletion.without_blocks.Given as goal

abbrev pub invariant-loop-archive : goal.invariant-loop-archive
invariant-loop-archive l = l.left + sum_by blocks.archive (values l.archives) ≡ l.used + sum_by blocks.archive l.archive-iterator
