use Rattle.std.proofs.Common.{◌≡◌, ◌+◌, drop}
use Rattle.glacier_extents.specs.Runs.{block_count}
use Rattle.glacier_replay.proofs.blocks.has_blocks.Given as goal

abbrev pub invariant-loop-run : goal.invariant-loop-run
invariant-loop-run l = l.left + block_count l.runs ≡ l.count + block_count (drop l.run-index l.runs)
