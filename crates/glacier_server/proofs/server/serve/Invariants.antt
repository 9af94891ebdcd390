use Rattle.std.proofs.Common.{◌≡◌, ◌+◌, ◌≤◌, ◌-◌, IsTrue}
use Rattle.glacier_replay.specs.Changes.{State}
use Rattle.glacier_server.specs.Placed.{placed_as}
use Rattle.glacier_store.specs.Kept.{Kept}
use Rattle.glacier_server.specs.Serving.{Serves, ServesOn}
use Rattle.glacier_server.proofs.server.serve.Given as goal

abbrev pub invariant-connections : goal.invariant-connections
invariant-connections g l = record {
  most : l.count ≤ l.fn.connections;
  served : IsTrue g.S.Disk.tells → (state : State) → Kept (g.S.Disk.told l.fn.station) l.initial.store state
      → (now : State) × Serves l.fn.config (g.S.Disk.told l.fn.station) (g.S.Disk.told l.station)
      (placed_as l.initial.store state) (placed_as l.store now) l.count;
  came : IsTrue g.S.Disk.tells
      → (g.S.Disk.told l.fn.station).listener.to_come ≡ l.count + (g.S.Disk.told l.station).listener.to_come;
  kept : ServesOn (g.S.Disk.told l.fn.station) (g.S.Disk.told l.station);
  faults : ((g.S.Disk.told l.station).listener.faults ≡ (g.S.Disk.told l.fn.station).listener.faults)
      × ((g.S.Disk.told l.station).disk_faults ≡ (g.S.Disk.told l.fn.station).disk_faults);
}

abbrev pub decreases-connections : goal.decreases-connections
decreases-connections g l = l.fn.connections - l.count
