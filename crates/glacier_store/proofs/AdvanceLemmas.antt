-- A store goes on by the event of a change, or stays where there is none.
use Rattle.std.proofs.Common.{◌≡◌, ℕ, ◌+◌, ◌<◌, List, [], ◌∷◌, Option, Some, None, Ok, Err, refl, sym, subst, arith, inl, inr}
use Rattle.std.specs.FinMap as map
use Rattle.std.specs.Prelude.{Result}
use Rattle.std.proofs.lemmas.Result.{IfOk-weaker, on_ok_weaker}
use Rattle.glacier_disk.specs.Moments.{Looks, looks_start, weaker}
use Rattle.glacier_disk.specs.Told.{Told, Lawful}
use Rattle.glacier_disk.proofs.TouchesLemmas.{touches_start}
use Rattle.glacier_journal.specs.declared.journal.Journal.{Journal}
use Rattle.glacier_vault.specs.Accounts.{AccountEvent, Accounts}
use Rattle.glacier_vault.specs.declared.event.Change.{Change}
use Rattle.glacier_vault.specs.declared.event.Event.{Event}
use Rattle.glacier_replay.specs.Changes.{State, after_account_event, after_all}
use Rattle.glacier_store.specs.Calls.{IsEventOf, Commits, Lengthens, event_at, record_room}
use Rattle.glacier_store.specs.Steps.{Advances, Grows, IsChangeOf, change_events, room_of}
use Rattle.glacier_store.specs.declared.fault.StoreFault.{StoreFault}
use Rattle.glacier_store.specs.declared.fault.StoreFault.TheVariants as fault
use Rattle.glacier_store.specs.declared.store.Store.{Store}
use Rattle.glacier_store.proofs.EventOfLemmas.{beside_none, rest_alone}
use Rattle.glacier_store.proofs.KeptLemmas.{stays_start}
use Rattle.glacier_store.proofs.CommitLemmas.{kept_without_memory}

-- where there is no event a store stays as it is
pub unchanged_keeps : (old : Told) (store : Store) (before : State) → Lawful old → store.accounts ≡ before.accounts
    → Commits old old store.journal store.area [] before before (Ok store)
unchanged_keeps old store before law accounts = record {
  any_moment = λ held. weaker old old _ _ (stays_start old store.journal store.area.blobs before law held) (λ i stands. inl stands);
  memory = λ held is. absurd (cc is);
  held = λ held. record { accounts = accounts; held = held };
  kept = λ held beside. record { accounts = accounts; held = held; rest = rest_alone store.area.free store.area.blobs beside };
  touches = touches_start store.journal.area old law;
}

-- a store that goes on as its parts say
pub advanced : (old new : Told) (store : Store) (happened : List AccountEvent) (result : Result Store StoreFault)
    → ((state : State) → store.accounts ≡ state.accounts → Commits old new store.journal store.area [] state (after_all state happened) result)
    → (happened ≡ [] → Looks old new) → Advances old new store happened result
advanced old new store happened result keeps idle = record {
  any_moment = λ state is. (keeps state is.accounts).any_moment is.held;
  memory = λ state is wanting. (keeps state is.accounts).memory is.held wanting;
  held = λ state is. (keeps state is.accounts).held is.held;
  kept = λ state kept. (keeps state kept.accounts).kept kept.held (beside_none store.area.free store.area.blobs kept.rest);
  touches = (keeps (record { accounts = store.accounts; bodies = map.empty }) refl).touches;
  idle = idle;
}

-- a change of the accounts that is kept
pub change_advances : (old new : Told) (store : Store) (afterwards : Accounts) (k : List ℕ) (m : ℕ) (change : Change) (result : Result Store StoreFault)
    → IsChangeOf store.accounts afterwards k m change
    → ((before : State) → IsChangeOf before.accounts afterwards k m change → Commits old new store.journal store.area [] before (after_all before (change_events k m change [])) result)
    → (change.event ≡ None → Looks old new) → Advances old new store (change_events k m change []) result
change_advances old new store afterwards k m change result is keeps idle =
    advanced old new store (change_events k m change []) result
    (λ state same. keeps state (subst (λ (all : Accounts). IsChangeOf all afterwards k m change) same is))
    (λ none. idle (no_event change.event change.freed none))
  where
    no_event : (event : Option Event) (freed : List ℕ) → change_events k m (record { event = event; freed = freed }) [] ≡ [] → event ≡ None
    no_event None freed none = refl
    no_event (Some event) freed none = cc none

-- nothing happens
pub idle_advances : (old : Told) (store : Store) (happened : List AccountEvent) → happened ≡ [] → Lawful old → Advances old old store happened (Ok store)
idle_advances old store happened none law = advanced old old store happened (Ok store)
    (λ state same. subst (λ (l : List AccountEvent). Commits old old store.journal store.area [] state (after_all state l) (Ok store)) (sym none) (unchanged_keeps old store state law same))
    (λ _. looks_start old law)

-- memory was wanting before anything was kept
pub no_memory_advances : (old : Told) (store : Store) (happened : List AccountEvent) (result : Result Store StoreFault) → result ≡ Err fault.Memory → Lawful old → Advances old old store happened result
no_memory_advances old store happened result is law =
    advanced old old store happened result (λ state same. kept_without_memory old store.journal store.area [] state (after_all state happened) result is law) (λ none. looks_start old law)

-- the journal stays as long as it is
pub grows_not : (store : Store) → Grows store.journal 0 (Ok store)
grows_not store = record {
  longer = omega arith;
  within = λ some. absurd (omega (arith, some));
  end = λ length is. absurd (cc is);
  some = λ length is. absurd (cc is);
  no_other = tt;
}

pub grows_none : (journal : Journal) (room : ℕ) (result : Result Store StoreFault) → result ≡ Err fault.Memory → Grows journal room result
grows_none journal room result is = subst (λ (r : Result Store StoreFault). Grows journal room r) (sym is) (record {
  longer = tt;
  within = tt;
  end = λ length is. absurd (cc is);
  some = λ length is. absurd (cc is);
  no_other = inr (inl refl);
})

-- and it grows by a record
pub grows_by : (journal : Journal) (room : ℕ) (result : Result Store StoreFault) → 0 < room → Lengthens journal room result → Grows journal (room + 0) result
grows_by journal room result some lengthens = record {
  longer = IfOk-weaker result _ _ (λ done is. omega (arith, is)) lengthens.longer;
  within = on_ok_weaker result (λ is low. omega (arith, is)) lengthens.within;
  end = λ length is. (let e = lengthens.end length is in (e.0, omega (arith, e.1)));
  some = λ length is. omega (arith, some);
  no_other = lengthens.no_other;
}

pub grows_once : (journal : Journal) (h : AccountEvent) (result : Result Store StoreFault) → Lengthens journal (record_room h []) result → Grows journal (room_of (h ∷ [])) result
grows_once journal h result lengthens = grows_by journal (record_room h []) result (omega arith) lengthens

module _ (k : List ℕ) (m : ℕ) (freed : List ℕ) where
  abbrev its : Option Event → List AccountEvent
  its event = change_events k m (record { event = event; freed = freed }) []

  -- a change without an event is kept
  pub none_keeps : (old : Told) (store : Store) (before : State) (event : Option Event) → event ≡ None → Lawful old
      → IsChangeOf before.accounts store.accounts k m (record { event = event; freed = freed })
      → Commits old old store.journal store.area [] before (after_all before (its event)) (Ok store)
  none_keeps old store before None none law is = unchanged_keeps old store before law is
  none_keeps old store before (Some event) none law is = absurd (cc none)

  -- and one with an event once that is
  pub some_keeps : (old new : Told) (store : Store) (before : State) (event : Option Event) (e : Event) (result : Result Store StoreFault) → event ≡ Some e
      → IsChangeOf before.accounts store.accounts k m (record { event = event; freed = freed })
      → (IsEventOf before.accounts store.accounts (event_at k m e []) freed → Commits old new store.journal store.area [] before (after_account_event before (event_at k m e [])) result)
      → Commits old new store.journal store.area [] before (after_all before (its event)) result
  some_keeps old new store before None e result there is keeps = absurd (cc there)
  some_keeps old new store before (Some event) e result there is keeps =
      let same : e ≡ event = cc in
      subst (λ (x : Event). Commits old new store.journal store.area [] before (after_account_event before (event_at k m x [])) result) same
      (keeps (subst (λ (x : Event). IsEventOf before.accounts store.accounts (event_at k m x []) freed) (sym same) is.1))

  pub none_grows : (store : Store) (event : Option Event) → event ≡ None → Grows store.journal (room_of (its event)) (Ok store)
  none_grows store None none = grows_not store
  none_grows store (Some event) none = absurd (cc none)

  pub some_grows : (journal : Journal) (event : Option Event) (e : Event) (result : Result Store StoreFault) → event ≡ Some e
      → Lengthens journal (record_room (event_at k m e []) []) result → Grows journal (room_of (its event)) result
  some_grows journal None e result there lengthens = absurd (cc there)
  some_grows journal (Some event) e result there lengthens =
      let same : e ≡ event = cc in
      subst (λ (x : Event). Grows journal (room_of (event_at k m x [] ∷ [])) result) same (grows_once journal (event_at k m e []) result lengthens)
