-- How a server's store begins: made in empty areas, or opened.
use Rattle.std.specs.Prelude.{◌≡◌, ◌⊎◌, ◌++◌, ◌∷◌, [], ℕ, Bool, true, false, List, None, Some, Result, Ok, Err, IfOk, OnOk, IfErr, IsErrOf}
use Rattle.std.specs.FinMap as map
use Rattle.glacier_base.specs.Outside.{HasRisen}
use Rattle.glacier_disk.specs.declared.area.Area.{Area}
use Rattle.glacier_disk.specs.Image.{Image}
use Rattle.glacier_disk.specs.Moments.{Looks}
use Rattle.glacier_disk.specs.Told.{Told}
use Rattle.glacier_journal.specs.Breaks.{areas, first_full}
use Rattle.glacier_journal.specs.Listed.{Payloads, Listed}
use Rattle.glacier_journal.specs.declared.journal.Journal.{Journal}
use Rattle.glacier_replay.specs.Changes.{State}
use Rattle.glacier_replay.specs.Standing.{Stands}
use Rattle.glacier_store.specs.Calls.{no_state}
use Rattle.glacier_store.specs.Kept.{Kept, Reads, Refuses}
use Rattle.glacier_vault.specs.Accounts.{Accounts}
use Rattle.glacier_store.specs.declared.fault.StoreFault.{StoreFault}
use Rattle.glacier_store.specs.declared.fault.StoreFault.TheVariants as store
use Rattle.glacier_store.specs.declared.store.Store.{Store}
use Rattle.glacier_cli.specs.declared.ending.Ending.{Ending}
use Rattle.glacier_cli.specs.declared.ending.Ending.TheVariants.{DiskFault, NoMemory, NotAJournal, NotEmpty, JournalEnd}

-- the state that is kept when a store is made in empty areas, or that the disk stands for when it is opened
abbrev pub StartsFrom : Bool → Image → State → Type 0
StartsFrom true reads state = (first_full reads areas ≡ None) × (state ≡ no_state)
StartsFrom false reads state = Stands reads state

-- the accounts that a store has when it is made in empty areas, or that the disk reads as when it is opened
abbrev pub Finds : Bool → Image → Accounts → Type 0
Finds true reads accounts = (first_full reads areas ≡ None) × (accounts ≡ map.empty)
Finds false reads accounts = Reads reads accounts

-- a journal that is made ends behind its first gate, and one that is opened where the disk's list ends
abbrev pub IsJournalOf : Bool → Image → Journal → Type 0
IsJournalOf true reads journal = journal.length ≡ 17
IsJournalOf false reads journal = (payloads : Payloads) × Listed reads journal.area payloads journal.length

-- a store starts with these accounts, and with this journal
abbrev pub Starts : Bool → Image → Store → Type 0
Starts is_new reads store = Finds is_new reads store.accounts × IsJournalOf is_new reads store.journal

-- the folder is in order: its areas are empty where a store is to be made, and else it can be read
abbrev pub IsInOrder : Bool → Image → Type 0
IsInOrder true reads = first_full reads areas ≡ None
IsInOrder false reads = (accounts : Accounts) × Reads reads accounts

-- the folder is only looked at while the store begins: it is opened, or it isn't in order
abbrev pub IsSpared : Bool → Image → Type 0
IsSpared is_new reads = (is_new ≡ false) ⊎ (IsInOrder is_new reads → ⊥)

-- a store was made or opened where the folder is in order, or this is why not
pub record Begins (is_new : Bool) (old new : Told) (result : Result Store StoreFault) : Type 0 where
  pub kept : (state : State) → StartsFrom is_new old.reads state → IfOk result (λ store. Kept new store state)
  pub starts : IfOk result (Starts is_new old.reads)
  pub found : (accounts : Accounts) → Finds is_new old.reads accounts → IfOk result (λ store. store.accounts ≡ accounts)
  pub refuses : (area : Area) (at : ℕ) → IsErrOf result (store.NotAJournal area at) → Refuses old.reads area at
  pub full : (area : Area) (size : ℕ) → IsErrOf result (store.NotEmpty area size)
      → first_full old.reads areas ≡ Some (area, size)
  pub in_order : IsInOrder is_new old.reads → IfErr result (λ why. (why ≡ store.Disk) ⊎ (why ≡ store.Memory))
  -- opening changes no image, and where the folder isn't in order nothing does
  pub looks : IsSpared is_new old.reads → Looks old new

-- why a store isn't made, or isn't opened
abbrev pub IsReason : Bool → StoreFault → Type 0
IsReason is_new store.Disk = Unit {0}
IsReason is_new store.Memory = Unit {0}
IsReason is_new (store.NotAJournal area at) = is_new ≡ false
IsReason is_new (store.NotEmpty area size) = is_new ≡ true
IsReason is_new (store.End length) = ⊥

-- the ending that a fault of a store makes
abbrev pub of_store : StoreFault → Ending
of_store store.Disk = DiskFault
of_store store.Memory = NoMemory
of_store (store.NotAJournal area at) = NotAJournal area at
of_store (store.NotEmpty area size) = NotEmpty area size
of_store (store.End length) = JournalEnd length

-- on every form: the disk's count of failed calls shows whether it failed, and which faults there are of a store
-- that is made, and of one that is opened
abbrev pub BeginCounts : Bool → Told → Told → Result Store Ending → Type 0
BeginCounts is_new old new (Ok store) = new.disk_faults ≡ old.disk_faults
BeginCounts is_new old new (Err DiskFault) = HasRisen old.disk_faults new.disk_faults
BeginCounts is_new old new (Err NoMemory) = new.disk_faults ≡ old.disk_faults
BeginCounts is_new old new (Err (NotAJournal area at)) = (new.disk_faults ≡ old.disk_faults) × (is_new ≡ false)
BeginCounts is_new old new (Err (NotEmpty area size)) = (new.disk_faults ≡ old.disk_faults) × (is_new ≡ true)
BeginCounts is_new old new (Err ending) = ⊥

-- why no store stands in a folder that was opened: it isn't in order, and this is the first place that keeps it from it
abbrev pub HasNoStore : Bool → Image → Ending → Type 0
HasNoStore is_new reads (NotAJournal area at) = (IsInOrder is_new reads → ⊥) × Refuses reads area at
HasNoStore is_new reads (NotEmpty area size) =
    (IsInOrder is_new reads → ⊥) × (first_full reads areas ≡ Some (area, size))
HasNoStore is_new reads ending = Unit {0}

-- a store begins in a folder, or this is why not
pub record BeginsIn (is_new : Bool) (folder : List ℕ) (old new : Told) (result : Result Store Ending) : Type 0 where
  pub opens : OnOk result (new.folders ≡ old.folders ++ folder ∷ [])
  pub at_most : (new.folders ≡ old.folders) ⊎ (new.folders ≡ old.folders ++ folder ∷ [])
  pub kept : (state : State) → StartsFrom is_new old.reads state → IfOk result (λ store. Kept new store state)
  pub starts : IfOk result (Starts is_new old.reads)
  pub found : (accounts : Accounts) → Finds is_new old.reads accounts → IfOk result (λ store. store.accounts ≡ accounts)
  pub why : IfErr result (HasNoStore is_new old.reads)
  -- opening changes no image, and where the folder isn't in order nothing does
  pub looks : IsSpared is_new old.reads → Looks old new
