use Rattle.std.proofs.Common.{◌≡◌, ◌≤◌, ◌+◌, ◌&&◌, not, ℕ, take}
use Rattle.std.specs.Vec.{vec_capacity}
use Rattle.glacier_extents.specs.Runs.{has_block, block_count, AreRuns, AreDistinct}
use Rattle.glacier_extents.specs.FreeRuns.{blocks, most_runs, AllIn}
use Rattle.glacier_extents.proofs.marking.mark_runs.Given as goal

abbrev pub invariant-loop-i : goal.invariant-loop-i
invariant-loop-i l = record {
  runs : AreRuns 0 blocks l.free.items;
  room : most_runs ≤ vec_capacity l.free;
  distinct : AreDistinct blocks (take l.i l.runs);
  all : AllIn l.fn.free.items (take l.i l.runs);
  rest : (b : ℕ) → has_block l.free.items b ≡ (has_block l.fn.free.items b && not (has_block (take l.i l.runs) b));
  count : block_count l.free.items + block_count (take l.i l.runs) ≡ block_count l.fn.free.items;
}
