-- What a store stands for: the state with the whole bytes of each blob, kept on a disk.
use Rattle.std.specs.Prelude.{◌≡◌, ◌⊎◌, ℕ, ◌&&◌, not, List}
use Rattle.std.specs.FinMap as map
use Rattle.glacier_bodies.specs.Stands.{Layouts}
use Rattle.glacier_disk.specs.declared.area.Area.{Area}
use Rattle.glacier_disk.specs.declared.area.Area.TheVariants.{Blobs}
use Rattle.glacier_disk.specs.Image.{Image}
use Rattle.glacier_disk.specs.Moments.{LeavesOnly}
use Rattle.glacier_disk.specs.Told.{Told}
use Rattle.glacier_extents.specs.declared.run.Run.{Run}
use Rattle.glacier_extents.specs.Runs.{has_block}
use Rattle.glacier_journal.specs.Breaks.{Breaks}
use Rattle.glacier_journal.specs.Listed.{Payloads, Listed, AllList}
use Rattle.glacier_journal.specs.declared.journal.Journal.{Journal}
use Rattle.glacier_replay.specs.Changes.{State}
use Rattle.glacier_replay.specs.Made.{BadRecord, IsRest, Makes}
use Rattle.glacier_replay.specs.Standing.{IsStateOf, Stands}
use Rattle.glacier_vault.specs.Accounts.{Accounts}
use Rattle.glacier_store.specs.declared.store.Store.{Store}

-- A journal on the disk makes the state, with these runs of each blob: each image that a crash now may leave lists the
-- same payloads where the journal says, and has the bytes of the state's blobs in their runs.
pub record IsHeldBy (disk : Told) (journal : Journal) (layouts : Layouts) (state : State) : Type 0 where
  pub payloads : Payloads
  pub listed : AllList disk.leaves journal.area payloads journal.length
  pub state_is : (i : Image) → disk.leaves i → IsStateOf payloads layouts (i Blobs) state

-- the free blocks are those that no blob has, but for those of an open body
pub record IsRestBeside (own free : List Run) (layouts : Layouts) : Type 0 where
  -- the free blocks before the body took its own
  pub whole : List Run
  pub rest : IsRest whole layouts
  pub taken : (b : ℕ) → has_block free b ≡ (has_block whole b && not (has_block own b))

-- a store is held: its journal makes its accounts and its blobs; other blocks may be those of open bodies
pub record IsHeld (disk : Told) (store : Store) (state : State) : Type 0 where
  pub accounts : store.accounts ≡ state.accounts
  pub held : IsHeldBy disk store.journal store.area.blobs state

-- a store is kept: its journal makes its accounts and its blobs, and all other blocks are free
pub record Kept (disk : Told) (store : Store) (state : State) : Type 0 where
  pub accounts : store.accounts ≡ state.accounts
  pub held : IsHeldBy disk store.journal store.area.blobs state
  pub rest : IsRest store.area.free store.area.blobs

-- what opening finds: the image lists payloads where the journal says, and they make the accounts and the runs of each blob
pub record ReadsAs (image : Image) (store : Store) : Type 0 where
  pub payloads : Payloads
  pub listed : Listed image store.journal.area payloads store.journal.length
  pub made : Makes payloads store.accounts store.area.blobs

-- the image lists payloads, and they make these accounts
pub record Reads (image : Image) (accounts : Accounts) : Type 0 where
  pub area : Area
  pub payloads : Payloads
  pub end : ℕ
  pub layouts : Layouts
  pub listed : Listed image area payloads end
  pub made : Makes payloads accounts layouts

-- a new store: it has no account and no blob, all blocks are free, and the journal ends behind its first gate
pub record HoldsNothing (store : Store) : Type 0 where
  pub accounts : store.accounts ≡ map.empty
  pub blobs : store.area.blobs ≡ map.empty
  pub rest : IsRest store.area.free store.area.blobs
  pub length : store.journal.length ≡ 17

-- the image lists payloads, and at this place the first that spells no record, or one that doesn't fit
pub record ListsBadRecord (image : Image) (area : Area) (at : ℕ) : Type 0 where
  pub payloads : Payloads
  pub end : ℕ
  pub listed : Listed image area payloads end
  pub record_is : BadRecord payloads at

-- the first place that keeps an image from being read
abbrev pub Refuses : Image → Area → ℕ → Type 0
Refuses image area at = Breaks image area at ⊎ ListsBadRecord image area at

-- at each moment since a call's start a crash leaves the state before it or the one after it
abbrev pub Changes : Told → Told → State → State → Type 0
Changes old new before after = LeavesOnly old new (λ i. Stands i before ⊎ Stands i after)

-- at each moment since a call's start a crash leaves this state
abbrev pub Stays : Told → Told → State → Type 0
Stays old new state = LeavesOnly old new (λ i. Stands i state)
