-- What is done in a stretch of calls, to the store and to what was sent.
use Rattle.std.specs.Prelude.{◌≡◌, List}
use Rattle.glacier_disk.specs.Network.{sent_on}
use Rattle.glacier_disk.specs.Told.{Told}
use Rattle.glacier_server.specs.Acts.{Act, events_in, sent_by, after_acts, StopsAmid}
use Rattle.glacier_server.specs.Rooms.{GrewBy}
use Rattle.glacier_server.specs.Placed.{Agrees, IsKept, Placed}

-- what failed last, after which no other call was made: nothing, a receive, a send, or what breaks the server off,
-- after which there is no store
pub data Failing : Type 0 where
  nothing : Failing
  receiving : Failing
  sending : Failing
  breaking : Failing

-- the disk keeps the store, unless the server broke off
abbrev pub StillKept : Failing → Told → Placed → Type 0
StillKept nothing told placed = IsKept told placed
StillKept receiving told placed = IsKept told placed
StillKept sending told placed = IsKept told placed
StillKept breaking told placed = Unit {0}

-- the journal grew by the events of these acts
abbrev pub Grew : Placed → Placed → List Act → Type 0
Grew before after acts = GrewBy before.store.journal.length after.store.journal.length (events_in acts)

-- it did, unless the server broke off
abbrev pub StillGrew : Failing → Placed → Placed → List Act → Type 0
StillGrew nothing before after acts = Grew before after acts
StillGrew receiving before after acts = Grew before after acts
StillGrew sending before after acts = Grew before after acts
StillGrew breaking before after acts = Unit {0}

-- These acts were done, and the state after is that after their events. Where the store was kept, it still is, and a
-- crash at any moment is one behind some of the acts.
pub record Does (old new : Told) (before after : Placed) (acts : List Act) (failing : Failing) : Type 0 where
  pub all_sent : sent_on new.connections ≡ sent_by acts (sent_on old.connections)
  pub after_is : after.state ≡ after_acts before.state acts
  pub agrees : Agrees before → Agrees after
  pub grew : StillGrew failing before after acts
  pub kept : IsKept old before → StillKept failing new after
  pub stops : IsKept old before → StopsAmid old new before.state acts
