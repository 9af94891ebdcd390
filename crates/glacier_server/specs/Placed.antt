-- A store with the state that it stands for.
use Rattle.std.specs.Prelude.{◌≡◌}
use Rattle.glacier_disk.specs.Told.{Told}
use Rattle.glacier_replay.specs.Changes.{State}
use Rattle.glacier_store.specs.Kept.{Kept}
use Rattle.glacier_store.specs.declared.store.Store.{Store}

-- a store, and all accounts with the whole bytes of each blob
pub record Placed : Type 0 where
  pub store : Store
  pub state : State

abbrev pub placed_as : Store → State → Placed
placed_as store state = record { store = store; state = state }

-- the accounts of the state are those of the store
abbrev pub Agrees : Placed → Type 0
Agrees placed = placed.store.accounts ≡ placed.state.accounts

-- the disk keeps the store as this state
abbrev pub IsKept : Told → Placed → Type 0
IsKept told placed = Kept told placed.store placed.state
