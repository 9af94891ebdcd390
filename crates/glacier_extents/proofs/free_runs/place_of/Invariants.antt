use Rattle.std.proofs.Common.{◌-◌, ◌<◌, ◌≤◌, length}
use Rattle.glacier_extents.specs.FreeRuns.{run_at}
use Rattle.glacier_extents.proofs.free_runs.place_of.Given as goal

abbrev pub invariant-loop-low : goal.invariant-loop-low
invariant-loop-low l = record {
  order : l.low ≤ l.high;
  within : l.high ≤ length l.runs;
  before : 0 < l.low → (run_at l.runs (l.low - 1)).first < l.block;
  behind : l.high < length l.runs → l.block ≤ (run_at l.runs l.high).first;
}

abbrev pub decreases-loop-low : goal.decreases-loop-low
decreases-loop-low l = l.high - l.low
