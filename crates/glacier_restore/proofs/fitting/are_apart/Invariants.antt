use Rattle.std.proofs.Common.{◌≡◌, length}
use Rattle.glacier_restore.specs.Fitting.{are_apart}
use Rattle.glacier_restore.proofs.fitting.are_apart.Given as goal

abbrev pub invariant-loop-left : goal.invariant-loop-left
invariant-loop-left l = are_apart l.counter l.left ≡ are_apart l.counter l.numbers

abbrev pub decreases-loop-left : goal.decreases-loop-left
decreases-loop-left l = length l.left
