-- Blobs stay apart, and under numbers that their accounts drew, record after record.
use Rattle.std.specs.Prelude.{◌≡◌, ◌⊎◌, ℕ, ◌<◌, ◌≤◌, Bool, true, false, cond, List, [], ◌∷◌, Option, Some, None, is_some, unwrap_or}
use Rattle.std.specs.Cmp.{eq_by_cmp_equiv}
use Rattle.std.specs.Cmp.Lexicographic.{nat_list_cmp_total}
use Rattle.std.specs.FinMap as map
use Rattle.std.proofs.Common.{sym, ◌∙◌, ap, subst, refl, arith, inl, inr}
use Rattle.glacier_bodies.specs.Stands.{Layouts, at_blob}
use Rattle.glacier_bodies.specs.Blobs.{IsApart}
use Rattle.glacier_bodies.proofs.NameLemmas.{no_blob_at}
use Rattle.glacier_bodies.proofs.SoundLemmas.{apart_both}
use Rattle.glacier_extents.specs.declared.run.Run.{Run}
use Rattle.glacier_extents.specs.FreeRuns.{blocks}
use Rattle.glacier_extents.specs.Runs.{has_block, AreDistinct}
use Rattle.glacier_journal.specs.Listed.{Payloads}
use Rattle.glacier_records.specs.declared.records.Item.{Item}
use Rattle.glacier_records.specs.declared.records.Item.TheVariants as item
use Rattle.glacier_vault.specs.Account.{empty_account}
use Rattle.glacier_vault.specs.declared.event.Event.{Event}
use Rattle.glacier_vault.specs.declared.state.AccountState.{AccountState}
use Rattle.glacier_vault.specs.Accounts.{Accounts, account_in}
use Rattle.glacier_replay.specs.Changes.{body_in, new_blob, change_in, accounts_after, blobs_after}
use Rattle.glacier_replay.specs.Made.{Holdings, BlocksFit, ItemFits, IsSettled, Leads, after_item, nothing}
use Rattle.glacier_replay.proofs.BlobMaps.{account_is, is_account, is_new, new_is, was_there}
use Rattle.glacier_replay.proofs.CounterLemmas.{counts, of_replayed}
use Rattle.glacier_replay.proofs.Options.{there_is}

-- the account after its state was put in
pub account_after : (accounts : Accounts) (account : List ℕ) (state : AccountState) (a : List ℕ) → account_in (map.insert accounts account state) a ≡ cond (is_account account a) state (account_in accounts a)
account_after accounts account state a = ap (λ r. unwrap_or r empty_account) (map.get-insert nat_list_cmp_total accounts account state a) ∙ at (is_account account a)
  where
    at : (b : Bool) → unwrap_or (cond b (Some state) (map.get accounts a)) empty_account ≡ cond b state (account_in accounts a)
    at true = refl
    at false = refl

module _ (held : Holdings) (settled : IsSettled held) (account : List ℕ) (m : ℕ) (event : Event) (runs : List Run)
    (blocks_fit : BlocksFit held.layouts event runs) (done : AccountState × List ℕ) (done_is : change_in held.accounts account m event ≡ Some done) where
  before : AccountState
  before = account_in held.accounts account

  abbrev layouts : Layouts
  layouts = blobs_after held.layouts account (new_blob (account_in held.accounts account).counter event runs) (Some done)

  abbrev New : List ℕ → ℕ → List Run → Type 0
  New a n own = (is_new account (account_in held.accounts account).counter event a n ≡ true) × (own ≡ runs)

  abbrev Old : List ℕ → ℕ → List Run → Type 0
  Old a n own = (is_new account (account_in held.accounts account).counter event a n ≡ false) × (at_blob held.layouts a n ≡ Some own)

  was : (a : List ℕ) (n : ℕ) (own : List Run) → at_blob layouts a n ≡ Some own → New a n own ⊎ Old a n own
  was a n own there = (was_there account a n held.layouts (account_in held.accounts account).counter event runs own done there).1

  counter : (account_in held.accounts account).counter ≤ done.0.counter
  counter = (counts (account_in held.accounts account) m done event (of_replayed (account_in held.accounts account) m event done done_is).1).stays

  drew : is_some (body_in event) ≡ true → (account_in held.accounts account).counter < done.0.counter
  drew = (counts (account_in held.accounts account) m done event (of_replayed (account_in held.accounts account) m event done done_is).1).draws

  distinct_after : (a : List ℕ) (n : ℕ) (own : List Run) → at_blob layouts a n ≡ Some own → AreDistinct blocks own
  distinct_after a n own there = elim (was a n own there) [
    | inl new ↦ subst (λ (l : List Run). AreDistinct blocks l) (sym new.1) blocks_fit.distinct
    | inr old ↦ settled.apart.distinct a n own old.1
  ]

  two_after : (a : List ℕ) (n : ℕ) (one : List Run) (b : List ℕ) (k : ℕ) (other : List Run) → New a n one ⊎ Old a n one → New b k other ⊎ Old b k other → (a ≡ b → n ≡ k → ⊥) → IsApart (has_block one) other
  two_after a n one b k other (inl new) (inl also) two =
      let here = new_is account (account_in held.accounts account).counter event a n new.0 in
      let there = new_is account (account_in held.accounts account).counter event b k also.0 in
      absurd (two (here.1 ∙ sym there.1) (here.2 ∙ sym there.2))
  two_after a n one b k other (inl new) (inr old) two = subst (λ (l : List Run). IsApart (has_block l) other) (sym new.1) (blocks_fit.unnamed b k other old.1)
  two_after a n one b k other (inr old) (inl new) two = subst (λ (l : List Run). IsApart (has_block one) l) (sym new.1) (apart_both runs one (blocks_fit.unnamed a n one old.1))
  two_after a n one b k other (inr old) (inr older) two = settled.apart.apart a n one b k other old.1 older.1 two

  drawn_after : (a : List ℕ) (n : ℕ) (own : List Run) → New a n own ⊎ Old a n own → (c : Bool) → is_account account a ≡ c → n < (cond c done.0 (account_in held.accounts a)).counter
  drawn_after a n own (inl new) true e =
      let here = new_is account (account_in held.accounts account).counter event a n new.0 in
      omega (arith, drew here.0, here.2)
  drawn_after a n own (inl new) false e =
      let here = new_is account (account_in held.accounts account).counter event a n new.0 in
      absurd (elsewhere here.1 e)
    where
      elsewhere : a ≡ account → is_account account a ≡ false → ⊥
      elsewhere same f = let t : is_account account a ≡ true = ap (is_account account) same ∙ (eq_by_cmp_equiv nat_list_cmp_total).refl account in cc
  drawn_after a n own (inr old) true e =
      let low : n < (account_in held.accounts a).counter = settled.drawn a n own old.1 in
      let same : (account_in held.accounts a).counter ≡ (account_in held.accounts account).counter = ap (λ k. (account_in held.accounts k).counter) (account_is account a e) in
      omega (arith, counter)
  drawn_after a n own (inr old) false e = settled.drawn a n own old.1

  settled_done : IsSettled (record { accounts = map.insert held.accounts account done.0; layouts = layouts })
  settled_done = record {
    apart = record {
      distinct = distinct_after;
      apart = λ a n one b k other there elsewhere two. two_after a n one b k other (was a n one there) (was b k other elsewhere) two;
    };
    drawn = λ a n own there. subst (λ (s : AccountState). n < s.counter) (sym (account_after held.accounts account done.0 a)) (drawn_after a n own (was a n own there) (is_account account a) refl);
  }

-- a record that fits leaves what is held settled
pub settled_item : (held : Holdings) → IsSettled held → (account : List ℕ) (m : ℕ) (it : Item) → ItemFits held account m it → IsSettled (after_item held account m it)
settled_item held settled account m (item.Event event runs) fits = there_is (change_in held.accounts account m event) fits.fits (λ done is.
    subst (λ (r : Option (AccountState × List ℕ)). IsSettled (record { accounts = accounts_after held.accounts account r; layouts = blobs_after held.layouts account (new_blob (account_in held.accounts account).counter event runs) r }))
    (sym is) (settled_done held settled account m event runs fits.blocks_fit done is))
settled_item held settled account m (item.Kept kept) fits = absurd fits

-- nothing is
pub nothing_settled : IsSettled nothing
nothing_settled = record {
  apart = record { distinct = λ a n runs there. none a n runs there; apart = λ a n runs b k other there elsewhere two. none a n runs there };
  drawn = λ a n runs there. none a n runs there;
}
  where
    none : {P : Type 0} (a : List ℕ) (n : ℕ) (runs : List Run) → at_blob nothing.layouts a n ≡ Some runs → P
    none a n runs there = let no : None ≡ Some runs = sym (no_blob_at a n) ∙ there in cc

-- and so is what payloads make
pub leads_settled : (payloads : Payloads) (before after : Holdings) → IsSettled before → Leads before payloads after → IsSettled after
leads_settled [] first after settled leads = subst IsSettled leads settled
leads_settled (payload ∷ payloads) first after settled leads =
    let adds = leads.1 in
    leads_settled payloads leads.0 after (subst IsSettled (sym adds.after_is) (settled_item first settled adds.this.account adds.this.moment adds.this.item adds.fits)) leads.2

-- the next number of an account has no blob yet
pub next_free : (held : Holdings) → IsSettled held → (account : List ℕ) → at_blob held.layouts account (account_in held.accounts account).counter ≡ None
next_free held settled account = at (at_blob held.layouts account (account_in held.accounts account).counter) refl
  where
    at : (r : Option (List Run)) → at_blob held.layouts account (account_in held.accounts account).counter ≡ r → r ≡ None
    at None e = refl
    at (Some runs) e = absurd (omega (arith, settled.drawn account (account_in held.accounts account).counter runs e))
