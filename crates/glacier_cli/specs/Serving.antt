-- What a run did for the connections that came to its address, and what a crash at a moment of it leaves.
use Rattle.std.specs.Prelude.{◌≡◌, ◌⊎◌, ◌≤◌, ◌+◌, false, ℕ, None, List, [], length}
use Rattle.glacier_disk.specs.Image.{Image, Only, NoMore}
use Rattle.glacier_disk.specs.Network.{Connection, sent_on}
use Rattle.glacier_machine.specs.declared.config.Config.{Config}
use Rattle.glacier_sigv4.specs.declared.ring.Entry.{Entry}
use Rattle.glacier_server.specs.declared.end.ServeFault.{ServeFault}
use Rattle.glacier_server.specs.Acts.{StopsAfter}
use Rattle.glacier_server.specs.Serving.{Came, Comes, ServedAll, ServedTill, BreaksLast, acts_of}
use Rattle.glacier_server.specs.Session.{Session}
use Rattle.glacier_replay.specs.Changes.{State}
use Rattle.glacier_server.specs.Placed.{IsKept, Placed, placed_as}
use Rattle.glacier_store.specs.Quotas.{over_quota}
use Rattle.glacier_store.specs.declared.store.Store.{Store}
use Rattle.glacier_cli.specs.Beginning.{IsInOrder, StartsFrom, Starts}
use Rattle.glacier_cli.specs.Forms.{ServeWords}
use Rattle.glacier_cli.specs.StationUse.{StationUse, NoneCame, OpensAll, OpensAtMost, config_of}

-- the store that was made or opened in this folder, in which no account is over its quota
pub record Holds (station : StationUse) (ring : List Entry) (words : ServeWords) : Type 0 where
  pub store : Store
  pub starts : Starts words.is_new station.before.reads store
  pub within : over_quota ring store.accounts ≡ None

-- so many connections were served for the accounts of a ring, from a store with a state on, and the folder keeps it as it
-- is after them
pub record ServesFrom (station : StationUse) (ring : List Entry) (words : ServeWords) (from : Placed) (count : ℕ) : Type 0 where
  pub after : Placed
  pub kept : IsKept station.after after
  pub came : List Connection
  pub sessions : List Session
  pub comes : Comes station.before station.after came sessions
  pub number : length came ≡ count
  pub each : ServedAll (config_of ring words) came sessions from after

-- so many connections came to this address, fewer than the most only where none is left to come; they were served from the
-- store of this folder on, with each state that the folder stood for
pub record ServesAt (station : StationUse) (ring : List Entry) (words : ServeWords) (count : ℕ) : Type 0 where
  pub opens : OpensAll station words
  pub holds : Holds station ring words
  pub came : Came station.before station.after words.connections count
  pub serves : (state : State) → StartsFrom words.is_new station.before.reads state
      → ServesFrom station ring words (placed_as holds.store state) count

-- those that came before a fault were served from a store with a state on
pub record TillFrom (station : StationUse) (ring : List Entry) (words : ServeWords) (fault : ServeFault) (from : Placed)
    : Type 0 where
  pub after : Placed
  pub came : List Connection
  pub sessions : List Session
  pub comes : Comes station.before station.after came sessions
  pub few : length came ≤ words.connections
  pub till : ServedTill (config_of ring words) fault came sessions from after

-- no more than the most came before a fault; they were served from the store of this folder on, with each state that the
-- folder stood for
pub record ServesTill (station : StationUse) (ring : List Entry) (words : ServeWords) (fault : ServeFault)
    : Type 0 where
  pub holds : Holds station ring words
  pub few : station.before.listener.to_come ≤ words.connections + station.after.listener.to_come
  pub serves : (state : State) → StartsFrom words.is_new station.before.reads state
      → TillFrom station ring words fault (placed_as holds.store state)

-- the run broke off: no connection came, or some were served till then
pub record BreaksAt (station : StationUse) (ring : List Entry) (words : ServeWords) (fault : ServeFault) : Type 0 where
  pub opens : OpensAtMost station words
  pub till : NoneCame station ⊎ ServesTill station ring words fault

-- no connection came
abbrev pub IsNone : List Connection → List Session → Type 0
IsNone came sessions = (came ≡ []) × (sessions ≡ [])

-- the machine served each connection in order, or each but the last, and a first part of what was due on that
abbrev pub IsServed : Config → List Connection → List Session → Placed → Type 0
IsServed config came sessions from =
    ((after : Placed) × ServedAll config came sessions from after)
    ⊎ ((fault : ServeFault) × BreaksLast config came sessions from fault)

-- no connection came, and all that a crash may leave, at any moment of the run or after it, could be left before it
pub record Spares (station : StationUse) : Type 0 where
  pub none : NoneCame station
  pub same : station.after.reads ≡ station.before.reads
  pub now : NoMore station.before.leaves station.after.leaves
  pub any_moment : (i : Image) (sent : List (List ℕ)) → station.after.left_with station.before.moment i sent
      → station.before.leaves i

-- what a run did, and what a crash at a moment of it left, from the state on that the folder stood for
pub record HeadlineFrom (station : StationUse) (ring : List Entry) (words : ServeWords) (state : State) : Type 0 where
  -- these connections came, and this was done on each: bytes taken, readings, events kept and bytes sent
  pub came : List Connection
  pub sessions : List Session
  pub comes : Comes station.before station.after came sessions
  -- it is what the vault machine does for these bytes, from this state on
  pub machine : IsNone came sessions
      ⊎ ((holds : Holds station ring words) × IsServed (config_of ring words) came sessions (placed_as holds.store state))
  -- What a crash at any moment left behind the first accept stands for the state after some first acts of it, and just
  -- the bytes among those had been sent.
  pub stop : (i : Image) (sent : List (List ℕ)) → station.after.left_with station.before.moment i sent
      → (sent ≡ sent_on station.before.connections)
      ⊎ StopsAfter (sent_on station.before.connections) state (acts_of sessions) i sent
  -- so before it too, where a store was opened, and at the start only the disk as it read could be left
  pub any_moment : words.is_new ≡ false → Only station.before.reads station.before.leaves
      → (i : Image) (sent : List (List ℕ)) → station.after.left_with station.before.moment i sent
      → StopsAfter (sent_on station.before.connections) state (acts_of sessions) i sent

-- THE HEADLINE of a run that serves, whatever its ending.
pub record Headline (station : StationUse) (ring : List Entry) (words : ServeWords) : Type 0 where
  pub from : (state : State) → StartsFrom words.is_new station.before.reads state → HeadlineFrom station ring words state
  -- nothing changes in a folder that isn't in order
  pub spared : (IsInOrder words.is_new station.before.reads → ⊥) → Spares station
