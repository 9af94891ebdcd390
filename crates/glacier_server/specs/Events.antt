-- What a message's call of the store does.
use Rattle.std.specs.Prelude.{◌≡◌, ℕ, List, ◌++◌, take, Result, IfOk, IsErrOf}
use Rattle.glacier_disk.specs.Image.{Image}
use Rattle.glacier_disk.specs.Moments.{LeavesOnly}
use Rattle.glacier_disk.specs.Told.{Told}
use Rattle.glacier_machine.specs.Outcomes.{Outcome}
use Rattle.glacier_replay.specs.Changes.{State, after_all}
use Rattle.glacier_replay.specs.Standing.{Stands}
use Rattle.glacier_vault.specs.Accounts.{AccountEvent}
use Rattle.glacier_server.specs.declared.end.ServeFault.{ServeFault}
use Rattle.glacier_server.specs.declared.end.ServeFault.TheVariants.{Disk, Memory, JournalEnd}
use Rattle.glacier_server.specs.Rooms.{GrewBy, EndsJournal}
use Rattle.glacier_store.specs.Kept.{Kept}
use Rattle.glacier_store.specs.Steps.{accounts_after}
use Rattle.glacier_store.specs.declared.fault.StoreFault.{StoreFault}
use Rattle.glacier_store.specs.declared.fault.StoreFault.TheVariants as store
use Rattle.glacier_store.specs.declared.store.Store.{Store}

-- a store that is there gives up for one of these
abbrev pub IsCallFault : StoreFault → Type 0
IsCallFault store.Disk = Unit {0}
IsCallFault store.Memory = Unit {0}
IsCallFault (store.NotAJournal area at) = ⊥
IsCallFault (store.NotEmpty area size) = ⊥
IsCallFault (store.End length) = Unit {0}

-- and what that is to the server
abbrev pub IsFault : StoreFault → ServeFault → Type 0
IsFault store.Disk fault = fault ≡ Disk
IsFault store.Memory fault = fault ≡ Memory
IsFault (store.NotAJournal area at) fault = ⊥
IsFault (store.NotEmpty area size) fault = ⊥
IsFault (store.End length) fault = fault ≡ JournalEnd length

-- an image stands for the state after some first ones of these events
pub record StandsForFirst (state : State) (events : List AccountEvent) (i : Image) : Type 0 where
  pub count : ℕ
  pub stands : Stands i (after_all state (take count events))

-- at each moment since the start a crash leaves the state after some first ones of them
abbrev pub KeepsFirst : Told → Told → State → List AccountEvent → Type 0
KeepsFirst old new state events = LeavesOnly old new (StandsForFirst state events)

-- The events of the time that passed are kept, and then those of what is done, or the server breaks off. A crash
-- meanwhile leaves the state after some first ones. For want of memory none of what is done is kept, and where the
-- journal was at its end, there was no room for the event behind those that were kept.
pub record KeepsEvents {T : Type 0} (old new : Told) (store : Store) (passed done : List AccountEvent)
    (result : Result (T × Store) ServeFault) : Type 0 where
  pub accounts : IfOk result (λ r. r.1.accounts ≡ accounts_after store.accounts (passed ++ done))
  pub grew : IfOk result (λ r. GrewBy store.journal.length r.1.journal.length (passed ++ done))
  pub any_moment : (state : State) → Kept old store state → KeepsFirst old new state (passed ++ done)
  pub kept : (state : State) → Kept old store state → IfOk result (λ r. Kept new r.1 (after_all state (passed ++ done)))
  pub memory : (state : State) → Kept old store state → IsErrOf result Memory → KeepsFirst old new state passed
  pub end : (length : ℕ) → IsErrOf result (JournalEnd length) → EndsJournal store (passed ++ done) length

-- the events of an outcome are kept so
abbrev pub KeepsOutcome : {T : Type 0} → Told → Told → Store → Outcome → Result (T × Store) ServeFault → Type 0
KeepsOutcome old new store outcome result = KeepsEvents old new store outcome.passed outcome.done result
