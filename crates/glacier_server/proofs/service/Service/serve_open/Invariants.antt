use Rattle.std.proofs.Common.{◌≡◌, ◌<◌, ◌-◌, IsTrue}
use Rattle.glacier_http.specs.declared.limits.TheConstants.{MOST_MESSAGES}
use Rattle.glacier_server.specs.Exchange.{standing}
use Rattle.glacier_server.specs.Transfer.{Keeps}
use Rattle.glacier_server.specs.Does.{nothing}
use Rattle.glacier_replay.specs.Changes.{State}
use Rattle.glacier_server.specs.Placed.{placed_as}
use Rattle.glacier_store.specs.Kept.{Kept}
use Rattle.glacier_server.proofs.ConnectionLemmas.{SoFarLast}
use Rattle.glacier_server.proofs.service.Service.serve_open.Given as goal

abbrev pub invariant-messages : goal.invariant-messages
invariant-messages g l = record {
  below : l.count < MOST_MESSAGES;
  so_far : IsTrue g.S.Disk.tells → (state : State) → Kept (g.S.Disk.told l.fn.station) l.initial.store state
      → (now : State) × SoFarLast l.self.config.now (g.S.Disk.told l.fn.station) (g.S.Disk.told l.station)
      (placed_as l.initial.store state) (standing l.count l.buffers.unread (placed_as l.store now));
  keeps : Keeps (g.S.Disk.told l.fn.station) (g.S.Disk.told l.station) nothing;
}

abbrev pub decreases-messages : goal.decreases-messages
decreases-messages g l = MOST_MESSAGES - l.count
