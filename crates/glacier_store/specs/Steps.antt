-- What time and what is asked for make of a store: their events, the accounts after them, and what is kept.
use Rattle.std.specs.Prelude.{◌≡◌, ◌⊎◌, ℕ, ◌+◌, ◌<◌, ◌≤◌, ◌^◌, List, [], ◌∷◌, Option, Some, None, Result, Ok, Err, IfOk, OnOk, IfErr, IsErrOf}
use Rattle.glacier_disk.specs.Moments.{Looks}
use Rattle.glacier_disk.specs.Told.{Told}
use Rattle.glacier_disk.specs.Touches.{Touches}
use Rattle.glacier_journal.specs.declared.journal.Journal.{Journal}
use Rattle.glacier_machine.specs.AccountSteps.{step_of}
use Rattle.glacier_machine.specs.Moments.{moment_change}
use Rattle.glacier_machine.specs.Outcomes.{events_of}
use Rattle.glacier_machine.specs.declared.action.Action.{Action}
use Rattle.glacier_vault.specs.declared.event.Change.{Change}
use Rattle.glacier_vault.specs.declared.rules.Rules.{Rules}
use Rattle.glacier_vault.specs.declared.state.AccountState.{AccountState}
use Rattle.glacier_vault.specs.Accounts.{AccountEvent, Accounts, account_in}
use Rattle.glacier_replay.specs.Changes.{State, accounts_after as after_one, after_all, body_in, change_in}
use Rattle.glacier_replay.specs.Replayed.{replayed}
use Rattle.glacier_store.specs.Kept.{Changes, IsHeld, Kept, Stays}
use Rattle.glacier_store.specs.Calls.{IsEventOf, event_at, record_room}
use Rattle.glacier_store.specs.declared.fault.StoreFault.{StoreFault}
use Rattle.glacier_store.specs.declared.fault.StoreFault.TheVariants as fault
use Rattle.glacier_store.specs.declared.store.Store.{Store}

-- the accounts after events in order
abbrev pub accounts_after : Accounts → List AccountEvent → Accounts
accounts_after accounts [] = accounts
accounts_after accounts (h ∷ more) =
    accounts_after (after_one accounts h.account (change_in accounts h.account h.moment h.event)) more

-- the event of a change with the bytes that it stores, if the change has an event
abbrev pub change_events : List ℕ → ℕ → Change → List ℕ → List AccountEvent
change_events account m change body = events_of account m change.event body

-- the events of the time that passes for an account until the moment m
abbrev pub time_events : List ℕ → ℕ → Accounts → List AccountEvent
time_events account m accounts = change_events account m (moment_change m (account_in accounts account)) []

-- the events of an action at the moment m, of which this is the body
abbrev pub action_events : Rules → ℕ → Action → List ℕ → Accounts → List AccountEvent
action_events rules m action body accounts =
    change_events rules.account m (step_of rules m action body (account_in accounts rules.account)).answer.change
    (step_of rules m action body (account_in accounts rules.account)).stored

-- a change makes of an account what its event does, whose body has this size and these leaves, and nothing where it has
-- no event
abbrev pub IsMadeWith : Option (ℕ × List (List ℕ)) → AccountState → ℕ → Change → AccountState → Type 0
IsMadeWith told before m change after = elim change.event [
  | None ↦ after ≡ before
  | Some event ↦ (body_in event ≡ told) × (replayed before m event ≡ Some (after, change.freed))
]

-- the same of all accounts, of which one changes
abbrev pub IsChangeWith : Option (ℕ × List (List ℕ)) → Accounts → Accounts → List ℕ → ℕ → Change → Type 0
IsChangeWith told before after account m change = elim change.event [
  | None ↦ after ≡ before
  | Some event ↦ (body_in event ≡ told) × IsEventOf before after (event_at account m event []) change.freed
]

-- the same of an event that has no body
abbrev pub IsMadeBy : AccountState → ℕ → Change → AccountState → Type 0
IsMadeBy before m change after = IsMadeWith None before m change after

abbrev pub IsChangeOf : Accounts → Accounts → List ℕ → ℕ → Change → Type 0
IsChangeOf before after account m change = IsChangeWith None before after account m change

-- time passed for an account until the moment m, which isn't before its last moment then
pub record HasPassed (before after : Accounts) (account : List ℕ) (m : ℕ) : Type 0 where
  pub after_is : after ≡ accounts_after before (time_events account m before)
  pub last : (account_in after account).last ≤ m

-- the store that a call leaves beside what it answers
abbrev pub store_left : {T : Type 0} → Result (Store × T) StoreFault → Result Store StoreFault
store_left (Ok done) = Ok done.0
store_left (Err why) = Err why

-- A store goes on by the event of a call, or stays where there is none: if it was held, it is still, and a crash at any
-- moment of the call leaves the state before it or the one after it, whether bodies are open or not. Only the journal's
-- area is written, and where there is no event nothing is.
pub record Advances (old new : Told) (store : Store) (happened : List AccountEvent) (result : Result Store StoreFault)
    : Type 0 where
  pub any_moment : (state : State) → IsHeld old store state → Changes old new state (after_all state happened)
  pub memory : (state : State) → IsHeld old store state → IsErrOf result fault.Memory → Stays old new state
  pub held : (state : State) → IsHeld old store state → IfOk result (λ done. IsHeld new done (after_all state happened))
  pub kept : (state : State) → Kept old store state → IfOk result (λ done. Kept new done (after_all state happened))
  pub touches : Touches store.journal.area old new
  pub idle : happened ≡ [] → Looks old new

-- the bytes that the records of events without a body take in the journal
abbrev pub room_of : List AccountEvent → ℕ
room_of [] = 0
room_of (h ∷ more) = record_room h [] + room_of more

-- the journal grows by so many bytes, unless there are some and it would get too long
pub record Grows (journal : Journal) (room : ℕ) (result : Result Store StoreFault) : Type 0 where
  pub longer : IfOk result (λ done. done.journal.length ≡ journal.length + room)
  pub within : OnOk result (0 < room → journal.length + room ≤ 2 ^ 62)
  pub end : (length : ℕ) → IsErrOf result (fault.End length) → (length ≡ journal.length) × (2 ^ 62 < length + room)
  pub some : (length : ℕ) → IsErrOf result (fault.End length) → 0 < room
  pub no_other : IfErr result
      (λ why. (why ≡ fault.Disk) ⊎ ((why ≡ fault.Memory) ⊎ (why ≡ fault.End journal.length)))
