use Rattle.std.proofs.Common.{◌≤◌, IsTrue}
use Rattle.glacier_server.specs.Transfer.{TakesOf, Keeps}
use Rattle.glacier_server.specs.Does.{nothing}
use Rattle.glacier_server.proofs.body.drop_rest.Given as goal

abbrev pub invariant-loop-left : goal.invariant-loop-left
invariant-loop-left g l = record {
  within : l.left ≤ l.fn.missing;
  takes : IsTrue g.S.Disk.tells → TakesOf (g.S.Disk.told l.fn.station)
      (g.S.Disk.told l.station) l.fn.missing l.left nothing;
  keeps : Keeps (g.S.Disk.told l.fn.station) (g.S.Disk.told l.station) nothing;
}

abbrev pub decreases-loop-left : goal.decreases-loop-left
decreases-loop-left g l = l.left
