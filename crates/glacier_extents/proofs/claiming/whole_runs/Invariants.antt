use Rattle.std.proofs.Common.{◌≡◌, ◌+◌, take}
use Rattle.glacier_extents.specs.Runs.{block_count}
use Rattle.glacier_extents.proofs.claiming.whole_runs.Given as goal

abbrev pub invariant-loop-i : goal.invariant-loop-i
invariant-loop-i l = block_count (take l.i l.runs) + l.left ≡ l.n
