use Rattle.std.proofs.Common.{◌-◌, IsTrue, length}
use Rattle.glacier_http.specs.Opening.{HasNoOpening}
use Rattle.glacier_http.specs.declared.limits.TheConstants.{MOST_HEAD}
use Rattle.glacier_server.specs.Transfer.{TakesBehind, Keeps}
use Rattle.glacier_server.specs.Does.{nothing}
use Rattle.glacier_server.proofs.next_head.next_head.Given as goal

abbrev pub invariant-search : goal.invariant-search
invariant-search g l = record {
  takes : IsTrue g.S.Disk.tells → TakesBehind (g.S.Disk.told l.fn.station)
      (g.S.Disk.told l.station) l.fn.unread l.unread HasNoOpening nothing;
  keeps : Keeps (g.S.Disk.told l.fn.station) (g.S.Disk.told l.station) nothing;
}

abbrev pub decreases-search : goal.decreases-search
decreases-search g l = MOST_HEAD - length l.unread
