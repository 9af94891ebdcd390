use Rattle.std.proofs.Common.{◌≡◌, true}
use Rattle.glacier_session_tests.proofs.store_change_tests.do_all.Given as goal

abbrev pub invariant-loop-is_put : goal.invariant-loop-is_put
invariant-loop-is_put g l = record {
  opened : (g.D.Disk.told l.disk).opened ≡ true;
}
