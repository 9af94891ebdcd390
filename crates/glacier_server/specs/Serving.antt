-- What a server does for the connections that come, one after another.
use Rattle.std.specs.Prelude.{◌≡◌, ◌⊎◌, true, false, ℕ, ◌+◌, ◌<◌, ◌≤◌, List, [], ◌∷◌, ◌++◌, length, Result, Ok, Err}
use Rattle.glacier_base.specs.Outside.{one_more, HasRisen}
use Rattle.glacier_disk.specs.Network.{Connection, Wait, accepted}
use Rattle.glacier_disk.specs.Told.{Told}
use Rattle.glacier_machine.specs.declared.config.Config.{Config}
use Rattle.glacier_server.specs.declared.end.End.{End}
use Rattle.glacier_server.specs.declared.end.ServeFault.{ServeFault}
use Rattle.glacier_server.specs.declared.end.ServeFault.TheVariants.{Disk, Memory, JournalEnd, Accept}
use Rattle.glacier_server.specs.Acts.{Act, accept, bytes_of}
use Rattle.glacier_server.specs.Served.{Served, Part, IsPrompt, failing_of}
use Rattle.glacier_server.specs.Breaking.{BrokenBy}
use Rattle.glacier_server.specs.Session.{Session}
use Rattle.glacier_server.specs.Transfer.{Fails}
use Rattle.glacier_server.specs.Does.{Does, Grew, nothing, breaking}
use Rattle.glacier_replay.specs.Changes.{State}
use Rattle.glacier_server.specs.Placed.{Placed, placed_as}
use Rattle.glacier_store.specs.Kept.{Kept}
use Rattle.glacier_store.specs.declared.store.Store.{Store}

-- the session is all that was done on the connection
pub record IsSessionOf (c : Connection) (s : Session) : Type 0 where
  pub taken : c.taken ≡ s.taken
  pub sent : c.sent ≡ bytes_of s.acts
  pub waits : c.waits ≡ s.waits

-- a connection on which nothing was taken or sent yet
abbrev pub begun : Wait
begun = record { taken = 0; sent = 0 }

-- the connection was served to this end, and what failed on it is what the end says
pub record ServedOne (config : Config) (c : Connection) (s : Session) : Type 0 where
  pub end : End
  pub all : IsSessionOf c s
  pub served : Served config s c.coming end
  pub prompt : IsPrompt config begun s
  pub fails : Fails (failing_of end) (accepted []) c
  pub grew : Grew s.before s.after s.acts

-- each was served in order, with the store that the one before it left
abbrev pub ServedAll : Config → List Connection → List Session → Placed → Placed → Type 0
ServedAll config [] [] placed new = new ≡ placed
ServedAll config [] (s ∷ ss) placed new = ⊥
ServedAll config (c ∷ cs) [] placed new = ⊥
ServedAll config (c ∷ cs) (s ∷ ss) placed new =
    (s.before ≡ placed) × ServedOne config c s × ServedAll config cs ss s.after new

-- what was done on connections one after another, and the readings that were taken
abbrev pub acts_of : List Session → List Act
acts_of [] = []
acts_of (s ∷ ss) = accept ∷ s.acts ++ acts_of ss

abbrev pub readings_of : List Session → List ℕ
readings_of [] = []
readings_of (s ∷ ss) = s.readings ++ readings_of ss

-- these connections came
pub record Comes (old new : Told) (came : List Connection) (sessions : List Session) : Type 0 where
  pub behind : new.connections ≡ old.connections ++ came
  pub read : new.readings ≡ old.readings ++ readings_of sessions

-- so many connections came and were served
pub record Serves (config : Config) (old new : Told) (placed after : Placed) (count : ℕ) : Type 0 where
  pub came : List Connection
  pub sessions : List Session
  pub comes : Comes old new came sessions
  pub does : Does old new placed after (acts_of sessions) nothing
  pub number : length came ≡ count
  pub fewer : old.listener.to_come ≡ count + new.listener.to_come
  pub each : ServedAll config came sessions placed after

-- those before the last were served; on it all was done for the messages before the last, and for that what the fault
-- says
pub record BreaksLast (config : Config) (came : List Connection) (sessions : List Session) (placed : Placed)
    (fault : ServeFault) : Type 0 where
  pub first : List Connection
  pub last : Connection
  pub before : List Session
  pub here : Session
  pub came_are : came ≡ first ++ last ∷ []
  pub sessions_are : sessions ≡ before ++ here ∷ []
  pub served : ServedAll config first before placed here.before
  pub all : IsSessionOf last here
  pub part : Part config here
  pub broken : BrokenBy config here part.1 fault
  pub prompt : IsPrompt config begun here

-- what was served before the fault
abbrev pub ServedTill : Config → ServeFault → List Connection → List Session → Placed → Placed → Type 0
ServedTill config Disk came sessions placed after = BreaksLast config came sessions placed Disk
ServedTill config Memory came sessions placed after = BreaksLast config came sessions placed Memory
ServedTill config (JournalEnd end) came sessions placed after = BreaksLast config came sessions placed (JournalEnd end)
ServedTill config Accept came sessions placed after = ServedAll config came sessions placed after

-- some connections came, at most so many, and then the server stopped
pub record Breaks (config : Config) (old new : Told) (placed : Placed) (most : ℕ) (fault : ServeFault) : Type 0 where
  pub came : List Connection
  pub sessions : List Session
  pub after : Placed
  pub comes : Comes old new came sessions
  pub does : Does old new placed after (acts_of sessions) breaking
  pub few : length came ≤ most
  pub till : ServedTill config fault came sessions placed after

-- memory was wanting before the first connection, and nothing was done
abbrev pub NeverBegan : ServeFault → Told → Told → Type 0
NeverBegan fault old new = (fault ≡ Memory) × (new.connections ≡ old.connections) × (new.readings ≡ old.readings)

-- how the server stopped, from a store on with each state as which the disk keeps it
abbrev pub Broken : Config → Told → Told → Store → ℕ → ServeFault → Type 0
Broken config old new store most fault =
    ((state : State) → Kept old store state → Breaks config old new (placed_as store state) most fault)
    ⊎ NeverBegan fault old new

-- whatever the disk holds: so many came of the connections that were to come, fewer than the most only where none is left
pub record Came (old new : Told) (most count : ℕ) : Type 0 where
  pub left : old.listener.to_come ≡ count + new.listener.to_come
  pub fewer : count < most → new.listener.to_come ≡ 0

-- the same of what is answered: before a fault no more than the most came
abbrev pub CameBy : {T : Type 0} → Result T ServeFault → (T → ℕ) → ℕ → Told → Told → Type 0
CameBy (Ok x) count most old new = Came old new most (count x)
CameBy (Err fault) count most old new = old.listener.to_come ≤ most + new.listener.to_come

-- a connection was just accepted, and nothing else was done
pub record JustAccepted (old new : Told) (placed : Placed) : Type 0 where
  pub input : List ℕ
  pub next : new.connections ≡ old.connections ++ accepted input ∷ []
  pub readings : new.readings ≡ old.readings
  pub fewer : old.listener.to_come ≡ 1 + new.listener.to_come
  pub does : Does old new placed placed (accept ∷ []) nothing

-- what stopped the server, by the counts of failed calls of the listener and of the disk
abbrev pub HasStopped : ServeFault → Told → Told → Type 0
HasStopped Disk old new =
    (new.listener.faults ≡ old.listener.faults) × HasRisen old.disk_faults new.disk_faults
HasStopped Memory old new = (new.listener.faults ≡ old.listener.faults) × (new.disk_faults ≡ old.disk_faults)
HasStopped (JournalEnd end) old new = (new.listener.faults ≡ old.listener.faults) × (new.disk_faults ≡ old.disk_faults)
HasStopped Accept old new =
    (new.listener.faults ≡ one_more old.listener.faults) × (new.disk_faults ≡ old.disk_faults)

-- these counts show whether something did
abbrev pub ShowsFault : {T : Type 0} → Result T ServeFault → Told → Told → Type 0
ShowsFault (Ok x) old new =
    (new.listener.faults ≡ old.listener.faults) × (new.disk_faults ≡ old.disk_faults)
ShowsFault (Err fault) old new = HasStopped fault old new

-- what calls of the listener and on its connections keep, on every form: no connection is open then, the disk is,
-- it listens, and no name was told to the outside
pub record ServesOn (old new : Told) : Type 0 where
  pub free : new.connected ≡ false
  pub opened : new.opened ≡ true
  pub listening : new.listener.listening ≡ true
  pub addresses : new.listener.addresses ≡ old.listener.addresses
  pub folders : new.folders ≡ old.folders
  pub disks : old.disk_faults ≤ new.disk_faults
  pub accepts : old.listener.faults ≤ new.listener.faults
  pub receives : old.receive_faults ≤ new.receive_faults
  pub sends : old.send_faults ≤ new.send_faults
