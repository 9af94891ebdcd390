use Rattle.std.specs.Prelude.{is_some}
use Rattle.std.proofs.Common.{rules, refl, ap}
use Rattle.glacier_host.proofs.host_station.HostStationStation.listen.Goals as goal

-- the network that was put there listens
pub returns-in-Ok-clause-call : goal.returns-in-Ok-clause-call
returns-in-Ok-clause-call g c = record {
  tried = search rules;
  ok = ap is_some c.put.ensures;
  err = search rules;
  to_come = refl;
  connected = refl;
  connections = refl;
  receives = refl;
  sends = refl;
  readings = refl;
  disk = search rules;
  time = search rules;
}
