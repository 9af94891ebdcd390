-- The headline: what was sent, and what a crash inside any call leaves, is the machine's.
use Rattle.std.specs.Prelude.{◌≡◌, ◌⊎◌, ℕ, List, ◌++◌}
use Rattle.glacier_disk.specs.Image.{Image}
use Rattle.glacier_disk.specs.Network.{Connection, sent_on}
use Rattle.glacier_disk.specs.Told.{Told}
use Rattle.glacier_machine.specs.declared.config.Config.{Config}
use Rattle.glacier_server.specs.declared.end.ServeFault.{ServeFault}
use Rattle.glacier_server.specs.Acts.{StopsAfter, StopsAmid, bytes_of}
use Rattle.glacier_server.specs.Served.{IsPartOfOut}
use Rattle.glacier_server.specs.Serving.{ServedAll, BreaksLast, acts_of, readings_of}
use Rattle.glacier_server.specs.Session.{Session}
use Rattle.glacier_server.specs.Transfer.{current}
use Rattle.glacier_server.specs.Placed.{Placed}

-- For the last connection, whatever its end or the fault that broke the server off:
pub record HeadlineLast (config : Config) (old new : Told) (placed : Placed) : Type 0 where
  -- these bytes were taken on it, however they came, these readings were taken, and these acts done
  pub session : Session
  pub starts : session.before ≡ placed
  pub took : (current new.connections).taken ≡ (current old.connections).taken ++ session.taken
  pub sent : (current new.connections).sent ≡ (current old.connections).sent ++ bytes_of session.acts
  pub read : new.readings ≡ old.readings ++ session.readings
  -- the acts are those of the machine for the messages in these bytes, in order, or a first part of them
  pub machine : IsPartOfOut config session
  -- what a crash left stands for the state after some first acts, and just their bytes had been sent
  pub stop : (i : Image) (sent_then : List (List ℕ)) → new.left_with old.moment i sent_then
      → StopsAfter (sent_on old.connections) placed.state session.acts i sent_then

-- For all connections that came, one after another, whatever ended the server:
pub record Headline (config : Config) (old new : Told) (placed : Placed) : Type 0 where
  pub came : List Connection
  pub sessions : List Session
  pub behind : new.connections ≡ old.connections ++ came
  pub read : new.readings ≡ old.readings ++ readings_of sessions
  -- each was served by the machine, in order, or each but the last, on which a first part was done
  pub machine : ((after : Placed) × ServedAll config came sessions placed after)
      ⊎ ((fault : ServeFault) × BreaksLast config came sessions placed fault)
  pub stop : (i : Image) (sent_then : List (List ℕ)) → new.left_with old.moment i sent_then
      → StopsAfter (sent_on old.connections) placed.state (acts_of sessions) i sent_then
  -- the same for a run that began earlier
  pub amid : StopsAmid old new placed.state (acts_of sessions)
