use Rattle.std.proofs.Common.{◌≡◌, true}
use Rattle.glacier_state_tests.proofs.store_read_tests.answered.Given as goal

abbrev pub invariant-loop-i : goal.invariant-loop-i
invariant-loop-i g l = record {
  opened : (g.D.Disk.told l.disk).opened ≡ true;
}
