use Rattle.std.proofs.Common.{◌≡◌, ◌≤◌, ◌+◌, ◌||◌, ℕ, drop, true, false}
use Rattle.std.specs.Vec.{vec_capacity}
use Rattle.glacier_extents.specs.Runs.{has_block, block_count, AreRuns, AreDistinct}
use Rattle.glacier_extents.specs.FreeRuns.{blocks, most_runs}
use Rattle.glacier_extents.proofs.marking.release_runs.Given as goal

abbrev pub invariant-loop-run : goal.invariant-loop-run
invariant-loop-run l = record {
  runs : AreRuns 0 blocks l.free.items;
  room : most_runs ≤ vec_capacity l.free;
  distinct : AreDistinct blocks (drop l.run-index l.runs);
  used : (b : ℕ) → has_block (drop l.run-index l.runs) b ≡ true → has_block l.free.items b ≡ false;
  blocks : (b : ℕ)
      → (has_block l.free.items b || has_block (drop l.run-index l.runs) b) ≡ (has_block l.fn.free.items b || has_block l.runs b);
  count : block_count l.free.items + block_count (drop l.run-index l.runs) ≡ block_count l.fn.free.items + block_count l.runs;
}
