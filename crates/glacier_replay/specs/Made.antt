-- What records make of the accounts and of the runs of each blob.
use Rattle.std.specs.Prelude.{◌≡◌, ℕ, ◌<◌, true, List, [], ◌∷◌, ◌++◌, Some, IsSome, false}
use Rattle.std.specs.FinMap as map
use Rattle.glacier_bodies.specs.Stands.{Layouts, at_blob, AreApart, IsUnnamed}
use Rattle.glacier_extents.specs.declared.run.Run.{Run}
use Rattle.glacier_extents.specs.FreeRuns.{blocks}
use Rattle.glacier_extents.specs.Runs.{has_block, block_count, AreDistinct}
use Rattle.glacier_journal.specs.Listed.{Payloads, behind}
use Rattle.glacier_records.specs.declared.records.Item.{Item}
use Rattle.glacier_records.specs.declared.records.Item.TheVariants as item
use Rattle.glacier_records.specs.declared.records.Record.{Record}
use Rattle.glacier_records.specs.Spells.{Spells}
use Rattle.glacier_vault.specs.declared.event.Event.{Event}
use Rattle.glacier_vault.specs.Accounts.{Accounts, account_in, AccountEvent}
use Rattle.glacier_replay.specs.Changes.{leaf_count, new_blob, change_in, accounts_after, blobs_after}

-- all accounts, and the runs of each blob
pub record Holdings : Type 0 where
  pub accounts : Accounts
  pub layouts : Layouts

-- before the first record there is no account and no blob
abbrev pub nothing : Holdings
nothing = record { accounts = map.empty; layouts = map.empty }

-- an event's blocks: one for each leaf of its body, none twice, none past the last and none that is a blob's, of which
-- those that it frees are still some
pub record BlocksFit (layouts : Layouts) (event : Event) (runs : List Run) : Type 0 where
  pub count : block_count runs ≡ leaf_count event
  pub distinct : AreDistinct blocks runs
  pub unnamed : IsUnnamed (has_block runs) layouts

-- an event with these runs fits what is held so far: it fits its account, and so do its blocks
pub record EventFits (held : Holdings) (account : List ℕ) (moment : ℕ) (event : Event) (runs : List Run) : Type 0 where
  pub fits : IsSome (change_in held.accounts account moment event)
  pub blocks_fit : BlocksFit held.layouts event runs

-- what is held after it
abbrev pub after_event : Holdings → List ℕ → ℕ → Event → List Run → Holdings
after_event held account moment event runs = record {
  accounts = accounts_after held.accounts account (change_in held.accounts account moment event);
  layouts = blobs_after held.layouts account (new_blob (account_in held.accounts account).counter event runs) (change_in held.accounts account moment event);
}

-- what a record tells fits what is held so far; there are no snapshots yet
abbrev pub ItemFits : Holdings → List ℕ → ℕ → Item → Type 0
ItemFits held account moment (item.Event event runs) = EventFits held account moment event runs
ItemFits held account moment (item.Kept kept) = ⊥

abbrev pub after_item : Holdings → List ℕ → ℕ → Item → Holdings
after_item held account moment (item.Event event runs) = after_event held account moment event runs
after_item held account moment (item.Kept kept) = held

-- a record fits what is held so far
abbrev pub FitsIn : Holdings → Record → Type 0
FitsIn held r = ItemFits held r.account r.moment r.item

-- what is held after it
abbrev pub after_record : Holdings → Record → Holdings
after_record held r = after_item held r.account r.moment r.item

-- a payload adds what it tells to what is held: it spells a record that fits
pub record Adds (payload : List ℕ) (before after : Holdings) : Type 0 where
  pub this : Record
  pub spells : Spells payload this
  pub fits : FitsIn before this
  pub after_is : after ≡ after_record before this

-- payloads lead from what is held before them to what is held after them
abbrev pub Leads : Holdings → Payloads → Holdings → Type 0
Leads before [] after = before ≡ after
Leads before (payload ∷ payloads) after = (mid : Holdings) × Adds payload before mid × Leads mid payloads after

-- payloads make these accounts and these runs of each blob
abbrev pub Makes : Payloads → Accounts → Layouts → Type 0
Makes payloads accounts layouts = Leads nothing payloads (record { accounts = accounts; layouts = layouts })

-- at this place stands the first payload that spells no record, or one that doesn't fit
pub record BadRecord (payloads : Payloads) (at : ℕ) : Type 0 where
  pub before : Payloads
  pub bad : List ℕ
  pub more : Payloads
  pub split : payloads ≡ before ++ bad ∷ more
  pub at_is : at ≡ behind 16 before
  pub held : Holdings
  pub made : Leads nothing before held
  pub refused : (r : Record) → Spells bad r → FitsIn held r → ⊥

-- no block is in two blobs or twice in one, and each blob has a number that its account drew
pub record IsSettled (held : Holdings) : Type 0 where
  pub apart : AreApart held.layouts
  pub drawn : (account : List ℕ) (number : ℕ) (runs : List Run) → at_blob held.layouts account number ≡ Some runs
      → number < (account_in held.accounts account).counter

-- no blob has the block
abbrev pub IsNobodys : ℕ → Layouts → Type 0
IsNobodys b layouts = (account : List ℕ) (number : ℕ) (runs : List Run) → at_blob layouts account number ≡ Some runs → has_block runs b ≡ false

-- the free blocks are just those that no blob has
pub record IsRest (free : List Run) (layouts : Layouts) : Type 0 where
  pub within : (b : ℕ) → has_block free b ≡ true → b < blocks
  pub nobodys : (b : ℕ) → has_block free b ≡ true → IsNobodys b layouts
  pub all : (b : ℕ) → b < blocks → IsNobodys b layouts → has_block free b ≡ true

-- the record of an event, with the runs of its body
abbrev pub record_of : AccountEvent → List Run → Record
record_of h runs = record { account = h.account; moment = h.moment; item = item.Event h.event runs }
