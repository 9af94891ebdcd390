-- What a change makes of all accounts, and what is kept of it.
use Rattle.std.specs.FinMap as map
use Rattle.std.proofs.Common.{◌≡◌, ℕ, Bool, true, false, cond, ◌||◌, List, [], Option, Some, None, refl, sym, ◌∙◌, ap, subst}
use Rattle.std.specs.Option.{is_some}
use Rattle.std.specs.Prelude.{IfSome, IsSome}
use Rattle.glacier_vault.specs.Accounts.{Accounts, account_in}
use Rattle.glacier_vault.specs.Lawful.{IsLawful}
use Rattle.glacier_vault.specs.declared.event.Change.{Change}
use Rattle.glacier_vault.specs.declared.event.Event.{Event}
use Rattle.glacier_vault.specs.declared.state.AccountState.{AccountState}
use Rattle.glacier_bodies.specs.Stands.{Layouts}
use Rattle.glacier_replay.specs.Changes.{accounts_after as after_one, body_in}
use Rattle.glacier_replay.specs.Replayed.{Replay, replayed}
use Rattle.glacier_store.specs.Drawn.{AreDrawn}
use Rattle.glacier_store.specs.Calls.{event_at}
use Rattle.glacier_store.specs.Steps.{IsChangeOf, IsChangeWith, IsMadeWith, accounts_after, change_events}
use Rattle.glacier_store.proofs.AccountLemmas.{put_back}
use Rattle.glacier_store.proofs.EventOfLemmas.{drawn_on}
use Rattle.glacier_replay.proofs.PutLemmas.{put_over}

module _ (told : Option (ℕ × List (List ℕ))) (accounts : Accounts) (k : List ℕ) (m : ℕ) where
  abbrev put_if : AccountState → Bool → Accounts
  put_if state b = cond b (map.insert (map.remove accounts k) k state) (map.remove accounts k)

  or_false : (b : Bool) → (b || false) ≡ b
  or_false true = refl
  or_false false = refl

  or_true : (b : Bool) → (b || true) ≡ true
  or_true true = refl
  or_true false = refl

  -- what was taken out goes back, as the event leaves it
  put : (event : Option Event) (freed : List ℕ) (after : AccountState) → IsLawful (account_in accounts k)
      → IsMadeWith told (account_in accounts k) m (record { event = event; freed = freed }) after
      → IsChangeWith told accounts (put_if after (map.contains_key accounts k || is_some event)) k m (record { event = event; freed = freed })
  put None freed after lawful made =
      ap (put_if after) (or_false (map.contains_key accounts k))
      ∙ ap (λ (s : AccountState). put_if s (map.contains_key accounts k)) made
      ∙ put_back accounts k (map.get accounts k) refl
  put (Some event) freed after lawful made = (
    made.0,
    record {
      lawful = lawful;
      becomes = after;
      change = made.1;
      after_is = ap (put_if after) (or_true (map.contains_key accounts k)) ∙ put_over accounts k after;
    },
  )

  pub changed_accounts : (before after : AccountState) (change : Change) (keep : Bool) (taken new : Accounts) → taken ≡ map.remove accounts k
      → before ≡ account_in accounts k → IsLawful before → IsMadeWith told before m change after → keep ≡ (map.contains_key accounts k || is_some change.event)
      → new ≡ cond keep (map.insert taken k after) taken → IsChangeWith told accounts new k m change
  changed_accounts before after change keep taken new took was lawful made keeps put_is =
      let new_is : new ≡ put_if after (map.contains_key accounts k || is_some change.event) =
      put_is
      ∙ ap (λ (b : Bool). cond b (map.insert taken k after) taken) keeps
      ∙ ap (λ (t : Accounts). cond (map.contains_key accounts k || is_some change.event) (map.insert t k after) t) took in
      subst (λ (all : Accounts). IsChangeWith told accounts all k m change) (sym new_is)
      (put change.event change.freed after (subst IsLawful was lawful) (subst (λ (b : AccountState). IsMadeWith told b m change after) was made))

-- the accounts after a change are those after its events
pub after_change : (told : Option (ℕ × List (List ℕ))) (before after : Accounts) (k : List ℕ) (m : ℕ) (event : Option Event) (freed body : List ℕ)
    → IsChangeWith told before after k m (record { event = event; freed = freed }) → after ≡ accounts_after before (change_events k m (record { event = event; freed = freed }) body)
after_change told before after k m None freed body is = is
after_change told before after k m (Some event) freed body is = is.1.after_is ∙ sym (ap (λ (r : Replay). after_one before k r) is.1.change)

-- the blobs' numbers stay drawn
pub drawn_after : (told : Option (ℕ × List (List ℕ))) (before after : Accounts) (k : List ℕ) (m : ℕ) (event : Option Event) (freed : List ℕ) (layouts : Layouts)
    → IsChangeWith told before after k m (record { event = event; freed = freed }) → AreDrawn before layouts → AreDrawn after layouts
drawn_after told before after k m None freed layouts is drawn = subst (λ (all : Accounts). AreDrawn all layouts) (sym is) drawn
drawn_after told before after k m (Some event) freed layouts is drawn = drawn_on before after (event_at k m event []) freed layouts is.1 drawn

-- the event of a change fits, and has no body
pub change_fits : (before after : Accounts) (k : List ℕ) (m : ℕ) (event : Option Event) (freed : List ℕ) → IsChangeOf before after k m (record { event = event; freed = freed })
    → IfSome event (λ e. (body_in e ≡ None) × ((a : AccountState) × IsSome (replayed a m e)))
change_fits before after k m None freed is = tt
change_fits before after k m (Some event) freed is = (is.0, (account_in before k, ap is_some is.1.change))
