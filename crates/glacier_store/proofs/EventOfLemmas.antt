-- What an event that fits makes of the accounts, of the blobs and of the free blocks.
use Rattle.std.proofs.Common.{◌≡◌, ℕ, ◌<◌, ◌≤◌, Bool, true, false, cond, ◌&&◌, List, [], ◌∷◌, Option, Some, None, refl, sym, ◌∙◌, ap, subst, arith, inl, inr}
use Rattle.std.specs.Prelude.{IsSome, is_some}
use Rattle.glacier_bodies.specs.BlobAreas.{AreaState, IsOpen, with_blob, without_blob}
use Rattle.glacier_bodies.specs.Stands.{Layouts, at_blob}
use Rattle.glacier_bodies.proofs.NameLemmas.{blob_after, blob_without}
use Rattle.glacier_extents.specs.declared.run.Run.{Run}
use Rattle.glacier_extents.specs.Runs.{block_count, has_block}
use Rattle.glacier_vault.specs.declared.event.Event.{Event}
use Rattle.glacier_vault.specs.declared.state.AccountState.{AccountState}
use Rattle.glacier_vault.specs.Accounts.{Accounts, account_in, AccountEvent}
use Rattle.glacier_replay.specs.Changes.{State, accounts_after, after_account_event, blobs_after, body_in, leaf_count, new_blob, with_new, without_blobs}
use Rattle.glacier_replay.specs.Made.{EventFits, IsRest, after_event}
use Rattle.glacier_replay.specs.Replayed.{Replay}
use Rattle.glacier_replay.proofs.BlobMaps.{account_is, is_account}
use Rattle.glacier_replay.proofs.CounterLemmas.{counts, of_replayed}
use Rattle.glacier_replay.proofs.RestLemmas.{rest_with}
use Rattle.glacier_replay.proofs.SettledLemmas.{account_after}
use Rattle.glacier_store.specs.Drawn.{AreDrawn}
use Rattle.glacier_store.specs.Kept.{IsRestBeside}
use Rattle.glacier_store.specs.Calls.{IsEventOf}

-- the blob that an event makes, where it has a body and where it has none
pub no_new : {X : Type 0} (counter : ℕ) (event : Event) (x : X) → body_in event ≡ None → new_blob counter event x ≡ None
no_new {X} counter event x none = ap (λ (r : Option (ℕ × List (List ℕ))). elim r as (λ _. Option (ℕ × X)) [ None ↦ None | Some told ↦ Some (counter, x) ]) none

pub its_new : {X : Type 0} (counter : ℕ) (event : Event) (x : X) → IsSome (body_in event) → new_blob counter event x ≡ Some (counter, x)
its_new {X} counter event x some = at (body_in event) some
  where
    at : (r : Option (ℕ × List (List ℕ))) → IsSome r → (elim r as (λ _. Option (ℕ × X)) [ None ↦ None | Some told ↦ Some (counter, x) ]) ≡ Some (counter, x)
    at None there = cc
    at (Some told) there = refl

module _ (before : State) (after : Accounts) (h : AccountEvent) (freed : List ℕ) (event : IsEventOf before.accounts after h freed) where
  -- the accounts after it are those of the state after it
  pub accounts_are : after ≡ (after_account_event before h).accounts
  accounts_are = event.after_is ∙ sym (ap (λ (r : Replay). accounts_after before.accounts h.account r) event.change)

  -- its blob comes in, and those that it frees go
  pub layouts_are : (layouts : Layouts) (runs : List Run) → (after_event (record { accounts = before.accounts; layouts = layouts }) h.account h.moment h.event runs).layouts
      ≡ without_blobs (with_new layouts h.account (new_blob (account_in before.accounts h.account).counter h.event runs)) h.account freed
  layouts_are layouts runs = ap (λ (r : Replay). blobs_after layouts h.account (new_blob (account_in before.accounts h.account).counter h.event runs) r) event.change

  -- it fits what is held, with the blocks of an open body
  pub event_fits : (area : AreaState) (runs : List Run) → IsOpen area runs → block_count runs ≡ leaf_count h.event
      → EventFits (record { accounts = before.accounts; layouts = area.blobs }) h.account h.moment h.event runs
  event_fits area runs opened count = record {
    fits = ap is_some event.change;
    blocks_fit = record { count = count; distinct = opened.distinct; unnamed = opened.unnamed };
  }

-- no block is an open body's
pub none_open : (area : AreaState) → IsOpen area []
none_open area = record { distinct = tt; used = λ b is. cc; unnamed = λ account number runs there b is. cc }

-- no body is open, and all blocks that no blob has are free
pub rest_alone : (free : List Run) (layouts : Layouts) → IsRestBeside [] free layouts → IsRest free layouts
rest_alone free layouts beside =
    let same : (b : ℕ) → has_block free b ≡ has_block beside.whole b = λ b. beside.taken b ∙ and_true (has_block beside.whole b) in
    record {
      within = λ b is. beside.rest.within b (sym (same b) ∙ is);
      nobodys = λ b is. beside.rest.nobodys b (sym (same b) ∙ is);
      all = λ b low nobody. same b ∙ beside.rest.all b low nobody;
    }
  where
    and_true : (c : Bool) → (c && true) ≡ c
    and_true true = refl
    and_true false = refl

-- and back
pub beside_none : (free : List Run) (layouts : Layouts) → IsRest free layouts → IsRestBeside [] free layouts
beside_none free layouts rest = record { whole = free; rest = rest; taken = λ b. and_true (has_block free b) }
  where
    and_true : (c : Bool) → c ≡ (c && true)
    and_true true = refl
    and_true false = refl

-- an open body becomes a blob
pub rest_named : (own free : List Run) (layouts : Layouts) (account : List ℕ) (number : ℕ) → at_blob layouts account number ≡ None
    → IsRestBeside own free layouts → IsRest free (with_blob layouts account number own)
rest_named own free layouts account number fresh beside = rest_with beside.whole layouts beside.rest account number own free fresh beside.taken

-- each blob's number stays drawn where an open body becomes a blob
pub drawn_with : (accounts : Accounts) (layouts : Layouts) (account : List ℕ) (number : ℕ) (runs : List Run) → AreDrawn accounts layouts
    → number < (account_in accounts account).counter → AreDrawn accounts (with_blob layouts account number runs)
drawn_with accounts layouts account number runs drawn its a n own there = elim (blob_after layouts account a number n runs own there) [
  | inl mine ↦ subst (λ (k : ℕ). k < (account_in accounts a).counter) (sym mine.1) (subst (λ (k : List ℕ). number < (account_in accounts k).counter) (sym mine.0) its)
  | inr old ↦ drawn a n own old
]

-- where blobs go
pub drawn_without : (accounts : Accounts) (layouts : Layouts) (account numbers : List ℕ) → AreDrawn accounts layouts → AreDrawn accounts (without_blobs layouts account numbers)
drawn_without accounts layouts account [] drawn = drawn
drawn_without accounts layouts account (number ∷ numbers) drawn =
    drawn_without accounts (without_blob layouts account number) account numbers (λ a n own there. drawn a n own (blob_without layouts account a number n own there).0)

-- and where an account goes on by an event
pub drawn_on : (before after : Accounts) (h : AccountEvent) (freed : List ℕ) (layouts : Layouts) → IsEventOf before after h freed → AreDrawn before layouts → AreDrawn after layouts
drawn_on before after h freed layouts event drawn a n own there =
    subst (λ (s : AccountState). n < s.counter) (sym (ap (λ (all : Accounts). account_in all a) event.after_is ∙ account_after before h.account event.becomes a))
    (at (is_account h.account a) refl)
  where
    stays : (account_in before h.account).counter ≤ event.becomes.counter
    stays = (counts (account_in before h.account) h.moment (event.becomes, freed) h.event (of_replayed (account_in before h.account) h.moment h.event (event.becomes, freed) event.change).1).stays

    at : (b : Bool) → is_account h.account a ≡ b → n < (cond b event.becomes (account_in before a)).counter
    at true is =
        let low : n < (account_in before a).counter = drawn a n own there in
        let same : (account_in before a).counter ≡ (account_in before h.account).counter = ap (λ (k : List ℕ). (account_in before k).counter) (account_is h.account a is) in
        omega (arith, low, same, stays)
    at false is = drawn a n own there

-- the next number of an account has no blob yet
pub next_fresh : (accounts : Accounts) (layouts : Layouts) → AreDrawn accounts layouts → (account : List ℕ) → at_blob layouts account (account_in accounts account).counter ≡ None
next_fresh accounts layouts drawn account = at (at_blob layouts account (account_in accounts account).counter) refl
  where
    at : (r : Option (List Run)) → at_blob layouts account (account_in accounts account).counter ≡ r → r ≡ None
    at None e = refl
    at (Some runs) e = absurd (omega (arith, drawn account (account_in accounts account).counter runs e))
