use Rattle.std.proofs.Common.{◌≡◌, ◌+◌}
use Rattle.std.specs.Prelude.{sum_by}
use Rattle.std.specs.FinMap.{values}
use Rattle.glacier_vault.specs.Totals.{blocks}
use Rattle.glacier_upload.proofs.aborting.all_blocks.Given as goal

abbrev pub invariant-loop-part : goal.invariant-loop-part
invariant-loop-part l = l.sum + sum_by blocks.part l.part-iterator ≡ sum_by blocks.part (values l.upload.parts)
