-- The room that events take in the journal.
use Rattle.std.specs.Prelude.{◌≡◌, ℕ, ◌+◌, ◌<◌, ◌^◌, List, [], ◌∷◌, ◌++◌, length}
use Rattle.std.specs.Int.{div_ceil}
use Rattle.glacier_extents.specs.declared.run.Run.{Run}
use Rattle.glacier_extents.specs.Places.{block_size}
use Rattle.glacier_extents.specs.Runs.{block_count}
use Rattle.glacier_store.specs.Calls.{record_room}
use Rattle.glacier_store.specs.declared.store.Store.{Store}
use Rattle.glacier_vault.specs.Accounts.{AccountEvent}

-- an event may take so many bytes, where its body lies in as many blocks as it needs
abbrev pub IsRoom : AccountEvent → ℕ → Type 0
IsRoom happened n =
    (runs : List Run) × (block_count runs ≡ div_ceil (length happened.body) block_size)
    × (happened.body ≡ [] → runs ≡ []) × (n ≡ record_room happened runs)

-- events take so many bytes, one behind the other
abbrev pub AreRooms : List AccountEvent → ℕ → Type 0
AreRooms [] n = n ≡ 0
AreRooms (happened ∷ more) n =
    (first : ℕ) × (rest : ℕ) × IsRoom happened first × AreRooms more rest × (n ≡ first + rest)

-- a length became this one by these events
abbrev pub GrewBy : ℕ → ℕ → List AccountEvent → Type 0
GrewBy before after events = (n : ℕ) × AreRooms events n × (after ≡ before + n)

-- behind a journal of this length there is no room for the first of these events
abbrev pub HasNoRoom : ℕ → List AccountEvent → Type 0
HasNoRoom length [] = ⊥
HasNoRoom length (happened ∷ more) = (n : ℕ) × IsRoom happened n × (2 ^ 62 < length + n)

-- of these events the first ones were kept, up to this length of the journal, and there was no room for the next one
pub record EndsJournal (store : Store) (events : List AccountEvent) (length : ℕ) : Type 0 where
  pub kept : List AccountEvent
  pub left : List AccountEvent
  pub split : events ≡ kept ++ left
  pub grew : GrewBy store.journal.length length kept
  pub full : HasNoRoom length left
