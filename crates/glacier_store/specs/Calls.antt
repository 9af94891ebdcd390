-- What each call of a store makes of the disk, and why it fails.
use Rattle.std.specs.Prelude.{◌≡◌, ◌⊎◌, ℕ, ◌+◌, ◌<◌, ◌≤◌, ◌^◌, true, List, [], Some, None, Result, IfOk, OnOk, IfErr, IsErrOf, length}
use Rattle.std.specs.FinMap as map
use Rattle.glacier_bodies.specs.BlobAreas.{AreaState, IsOpen, with_blob}
use Rattle.glacier_bodies.specs.Blobs.{IsApart}
use Rattle.glacier_bodies.specs.Bodies.{HasTaken, body_runs}
use Rattle.glacier_bodies.specs.declared.body.Body.{Body}
use Rattle.glacier_bodies.specs.Stands.{AreApart, Layouts}
use Rattle.glacier_base.specs.Outside.{HasRisen}
use Rattle.glacier_disk.specs.declared.area.Area.{Area}
use Rattle.glacier_disk.specs.Moments.{Looks}
use Rattle.glacier_disk.specs.Told.{Told}
use Rattle.glacier_disk.specs.Touches.{Touches}
use Rattle.glacier_extents.specs.declared.run.Run.{Run}
use Rattle.glacier_extents.specs.FreeRuns.{Claims}
use Rattle.glacier_extents.specs.Places.{WritesBlocks}
use Rattle.glacier_extents.specs.Runs.{block_count, has_block}
use Rattle.glacier_journal.specs.Breaks.{areas, first_full}
use Rattle.glacier_journal.specs.Listed.{IsNew}
use Rattle.glacier_journal.specs.declared.journal.Journal.{Journal}
use Rattle.glacier_records.specs.Spells.{spelling}
use Rattle.glacier_vault.specs.Lawful.{IsLawful}
use Rattle.glacier_vault.specs.declared.event.Event.{Event}
use Rattle.glacier_vault.specs.declared.state.AccountState.{AccountState}
use Rattle.glacier_vault.specs.Accounts.{Accounts, account_in, AccountEvent}
use Rattle.glacier_replay.specs.Changes.{State, change_in, without_blobs}
use Rattle.glacier_replay.specs.Made.{IsRest, record_of}
use Rattle.glacier_replay.specs.Standing.{Stands}
use Rattle.glacier_store.specs.Kept.{Changes, IsHeld, IsHeldBy, Kept, IsRestBeside, Reads, ReadsAs, Refuses, Stays}
use Rattle.glacier_store.specs.declared.fault.StoreFault.{StoreFault}
use Rattle.glacier_store.specs.declared.fault.StoreFault.TheVariants as fault
use Rattle.glacier_store.specs.declared.store.Store.{Store}

-- the disk stays open, and the count of its faults rises where the call answers so, and nowhere else
pub record StoreCall {T : Type 0} (old new : Told) (result : Result T StoreFault) : Type 0 where
  pub opened : new.opened ≡ true
  pub ok : OnOk result (new.disk_faults ≡ old.disk_faults)
  pub disk : IsErrOf result fault.Disk → HasRisen old.disk_faults new.disk_faults
  pub others : IfErr result (λ why. (why ≡ fault.Disk) ⊎ (new.disk_faults ≡ old.disk_faults))

-- the state of no account
abbrev pub no_state : State
no_state = record { accounts = map.empty; bodies = map.empty }

-- a store is made where all areas are empty, and nowhere else: where one isn't, it stays as it is
pub record Creates (old new : Told) (result : Result Store StoreFault) : Type 0 where
  pub kept : IfOk result (λ store. Kept new store no_state)
  pub made : OnOk result (IsNew new.reads)
  pub empty : OnOk result (first_full old.reads areas ≡ None)
  pub not_empty : (area : Area) (size : ℕ) → IsErrOf result (fault.NotEmpty area size)
      → first_full old.reads areas ≡ Some (area, size)
  pub untouched : (first_full old.reads areas ≡ None → ⊥) → Looks old new

-- the store is opened that the disk reads as, or its first place is told that keeps it from it
pub record Opens (old new : Told) (result : Result Store StoreFault) : Type 0 where
  pub reads : IfOk result (λ store. ReadsAs old.reads store)
  pub refuses : (area : Area) (at : ℕ) → IsErrOf result (fault.NotAJournal area at) → Refuses old.reads area at
  pub found : (accounts : Accounts) → Reads old.reads accounts → IfOk result (λ store. store.accounts ≡ accounts)
  -- a state that the disk stands for is the one that is kept
  pub kept : (state : State) → Stands old.reads state → IfOk result (λ store. Kept new store state)
  -- a disk that can be read is opened, or not for want of memory or by a fault of it
  pub not_refused : (accounts : Accounts) → Reads old.reads accounts
      → IfErr result (λ why. (why ≡ fault.Disk) ⊎ (why ≡ fault.Memory))
  pub looks : Looks old new

-- an event of an account at a moment, with the bytes of its body
abbrev pub event_at : List ℕ → ℕ → Event → List ℕ → AccountEvent
event_at account moment event body = record { account = account; moment = moment; event = event; body = body }

-- an event of an account fits, makes these accounts of those before it, and frees these blobs
pub record IsEventOf (before after : Accounts) (h : AccountEvent) (freed : List ℕ) : Type 0 where
  pub lawful : IsLawful (account_in before h.account)
  pub becomes : AccountState
  pub change : change_in before h.account h.moment h.event ≡ Some (becomes, freed)
  pub after_is : after ≡ map.insert before h.account becomes

-- An event that leads to these accounts, with a body that lies in these runs already, becomes a state's: a crash at any
-- moment of the call leaves the state before it or the one after it, if it was held, and only the journal's area changes.
pub record Commits (old new : Told) (journal : Journal) (area : AreaState) (own : List Run) (before after : State)
    (result : Result Store StoreFault) : Type 0 where
  pub any_moment : IsHeldBy old journal area.blobs before → Changes old new before after
  pub memory : IsHeldBy old journal area.blobs before → IsErrOf result fault.Memory → Stays old new before
  pub held : IsHeldBy old journal area.blobs before → IfOk result (λ store. IsHeld new store after)
  pub kept : IsHeldBy old journal area.blobs before → IsRestBeside own area.free area.blobs
      → IfOk result (λ store. Kept new store after)
  pub touches : Touches journal.area old new

-- blobs of an account went, each other blob stays where it was, all blocks that no blob has are free if they were, and
-- open bodies stay open
pub record HasFreed (old new : AreaState) (account numbers : List ℕ) : Type 0 where
  pub blobs : new.blobs ≡ without_blobs old.blobs account numbers
  pub rest : AreApart old.blobs → IsRest old.free old.blobs → IsRest new.free new.blobs
  pub others : (runs : List Run) → IsOpen old runs → IsOpen new runs

-- an open body became a blob of an account, and then blobs of it went; the bodies that were open beside it stay open
pub record HasNamed (old new : AreaState) (account : List ℕ) (number : ℕ) (own : List Run) (numbers : List ℕ) : Type 0 where
  pub freed : HasFreed (record { free = old.free; blobs = with_blob old.blobs account number own }) new account numbers
  pub others : (runs : List Run) → IsOpen old runs → IsApart (has_block own) runs → IsOpen new runs

-- the bytes that an event's record takes in the journal
abbrev pub record_room : AccountEvent → List Run → ℕ
record_room h runs = length (spelling (record_of h runs)) + 5

-- the journal grows by so many bytes, unless it would get too long
pub record Lengthens (journal : Journal) (room : ℕ) (result : Result Store StoreFault) : Type 0 where
  pub longer : IfOk result (λ store. store.journal.length ≡ journal.length + room)
  pub within : OnOk result (journal.length + room ≤ 2 ^ 62)
  pub end : (length : ℕ) → IsErrOf result (fault.End length) → (length ≡ journal.length) × (2 ^ 62 < length + room)
  pub no_other : IfErr result
      (λ why. (why ≡ fault.Disk) ⊎ ((why ≡ fault.Memory) ⊎ (why ≡ fault.End journal.length)))

-- only the free blocks change
pub record OnlyFree (old new : Store) : Type 0 where
  pub accounts : new.accounts ≡ old.accounts
  pub journal : new.journal ≡ old.journal
  pub blobs : new.area.blobs ≡ old.area.blobs

-- a body was opened in so many free blocks, the lowest, of which there were enough; other open bodies stay open beside it
pub record HasBegun (old new : AreaState) (count : ℕ) (body : Body) : Type 0 where
  pub enough : count ≤ block_count old.free
  pub lowest : Claims count old.free new.free (body_runs body)
  pub opened : IsOpen new (body_runs body)
  pub empty : HasTaken body []
  pub others : (runs : List Run) → IsOpen old runs → IsOpen new runs × IsApart (has_block (body_runs body)) runs

-- whatever state was held is held, and stood at each moment since; nothing is written but these blocks of Blobs
pub record KeepsHeld (old new : Told) (journal : Journal) (layouts : Layouts) (own : List Run) : Type 0 where
  pub held : (state : State) → IsHeldBy old journal layouts state → IsHeldBy new journal layouts state
  pub stays : (state : State) → IsHeldBy old journal layouts state → Stays old new state
  pub writes : WritesBlocks (has_block own) old new
