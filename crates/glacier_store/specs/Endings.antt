-- What the end of a body makes of a store: its event, the store after it, and what is kept.
use Rattle.std.specs.Prelude.{◌≡◌, ℕ, ◌+◌, List, [], ◌∷◌, Result, IfOk, IsErrOf}
use Rattle.glacier_bodies.specs.BlobAreas.{AreaState, IsOpen}
use Rattle.glacier_bodies.specs.Blobs.{IsApart}
use Rattle.glacier_disk.specs.Moments.{Looks}
use Rattle.glacier_disk.specs.Told.{Told}
use Rattle.glacier_disk.specs.Touches.{Touches}
use Rattle.glacier_extents.specs.declared.run.Run.{Run}
use Rattle.glacier_extents.specs.Runs.{has_block}
use Rattle.glacier_machine.specs.AccountSteps.{step_of}
use Rattle.glacier_machine.specs.declared.action.Action.TheVariants.{Upload}
use Rattle.glacier_machine.specs.declared.action.Answer.{Answer}
use Rattle.glacier_upload.specs.declared.asks.UploadAsk.{UploadAsk}
use Rattle.glacier_vault.specs.declared.rules.Rules.{Rules}
use Rattle.glacier_vault.specs.Accounts.{AccountEvent, account_in}
use Rattle.glacier_replay.specs.Changes.{State, after_all}
use Rattle.glacier_store.specs.Calls.{record_room}
use Rattle.glacier_store.specs.Kept.{Changes, IsHeld, IsRestBeside, Kept, Stays}
use Rattle.glacier_store.specs.Steps.{accounts_after, action_events}
use Rattle.glacier_store.specs.declared.fault.StoreFault.{StoreFault}
use Rattle.glacier_store.specs.declared.fault.StoreFault.TheVariants as fault
use Rattle.glacier_store.specs.declared.store.Store.{Store}

-- the bytes that the records of events take in the journal, with a body that lies in these runs
abbrev pub room_with : List Run → List AccountEvent → ℕ
room_with own [] = 0
room_with own (h ∷ more) = record_room h own + room_with own more

-- an upload was done at the moment m, of which this is the body
pub record HasEnded (rules : Rules) (m : ℕ) (ask : UploadAsk) (body : List ℕ) (before : Store) (done : Store × Answer)
    : Type 0 where
  pub answer : done.1 ≡ (step_of rules m (Upload ask) body (account_in before.accounts rules.account)).answer
  pub accounts : done.0.accounts ≡ accounts_after before.accounts (action_events rules m (Upload ask) body before.accounts)

-- the bodies that were open beside one stay open
abbrev pub OthersStay : List Run → AreaState → AreaState → Type 0
OthersStay own old new = (runs : List Run) → IsOpen old runs → IsApart (has_block own) runs → IsOpen new runs

-- and so do the accounts
pub record StaysBeside (own : List Run) (old new : Store) : Type 0 where
  pub accounts : new.accounts ≡ old.accounts
  pub others : OthersStay own old.area new.area

-- A body that lies in blocks of its own ends, and a store goes on by its event, or stays where there is none: if the store
-- was held, it is still, and a crash at any moment of the call leaves the state before it or the one after it. If no other
-- body was open, all blocks that no blob has are free then. Only the journal's area is written, and where there is no event
-- nothing is.
pub record Ends (old new : Told) (store : Store) (own : List Run) (happened : List AccountEvent)
    (result : Result Store StoreFault) : Type 0 where
  pub any_moment : (state : State) → IsHeld old store state → Changes old new state (after_all state happened)
  pub memory : (state : State) → IsHeld old store state → IsErrOf result fault.Memory → Stays old new state
  pub held : (state : State) → IsHeld old store state → IfOk result (λ done. IsHeld new done (after_all state happened))
  pub kept : (state : State) → IsHeld old store state → IsRestBeside own store.area.free store.area.blobs
      → IfOk result (λ done. Kept new done (after_all state happened))
  pub touches : Touches store.journal.area old new
  pub idle : happened ≡ [] → Looks old new
