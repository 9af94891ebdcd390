-- What is kept where a body ends, with the event of a change or without one.
use Rattle.std.specs.Cmp.{eq_by_cmp_equiv}
use Rattle.std.specs.Cmp.Lexicographic.{nat_list_cmp_total}
use Rattle.std.specs.FinMap as map
use Rattle.std.proofs.Common.{◌≡◌, ℕ, ◌<◌, Bool, cond, List, [], ◌∷◌, length, Option, Some, None, Ok, Err, refl, sym, ◌∙◌, ap, subst, inl, arith}
use Rattle.std.specs.Prelude.{Result, IfOk, IfSome, IsSome, is_some}
use Rattle.glacier_disk.specs.Moments.{Looks, looks_start, weaker}
use Rattle.glacier_disk.specs.Told.{Told, Lawful}
use Rattle.glacier_disk.proofs.TouchesLemmas.{touches_start}
use Rattle.glacier_extents.specs.declared.run.Run.{Run}
use Rattle.glacier_journal.specs.declared.journal.Journal.{Journal}
use Rattle.glacier_treehash.specs.Leaves.{leaves_of}
use Rattle.glacier_vault.specs.Accounts.{AccountEvent, Accounts, account_in}
use Rattle.glacier_vault.specs.declared.event.Change.{Change}
use Rattle.glacier_vault.specs.declared.event.Event.{Event}
use Rattle.glacier_vault.specs.declared.state.AccountState.{AccountState}
use Rattle.glacier_replay.specs.Changes.{IsBodyOf, State, after_account_event, after_all, body_in, leaf_count}
use Rattle.glacier_replay.specs.Made.{IsRest}
use Rattle.glacier_replay.proofs.CounterLemmas.{counts, of_replayed}
use Rattle.glacier_replay.proofs.SettledLemmas.{account_after}
use Rattle.glacier_store.specs.Kept.{IsHeldBy, IsRestBeside}
use Rattle.glacier_store.specs.Calls.{Commits, HasNamed, IsEventOf, Lengthens, OnlyFree, event_at, record_room}
use Rattle.glacier_store.specs.Endings.{Ends, StaysBeside, room_with}
use Rattle.glacier_store.specs.Steps.{Grows, IsChangeWith, change_events}
use Rattle.glacier_store.specs.declared.fault.StoreFault.{StoreFault}
use Rattle.glacier_store.specs.declared.fault.StoreFault.TheVariants as fault
use Rattle.glacier_store.specs.declared.store.Store.{Store}
use Rattle.glacier_store.proofs.AdvanceLemmas.{grows_by, grows_not}
use Rattle.glacier_store.proofs.CommitLemmas.{kept_without_memory}
use Rattle.glacier_store.proofs.KeptLemmas.{stays_start}

-- a store of which only free blocks changed holds what it held
held_still : (old : Told) (store done : Store) (before : State) → OnlyFree store done → IsHeldBy old store.journal store.area.blobs before → IsHeldBy old done.journal done.area.blobs before
held_still old store done before same held =
    subst (λ (j : Journal). IsHeldBy old j done.area.blobs before) (sym same.journal)
    (subst (λ l. IsHeldBy old store.journal l before) (sym same.blobs) held)

-- the blocks of a body go back, and nothing is written
released_keeps : (old : Told) (store done : Store) (own : List Run) (before : State) → Lawful old → store.accounts ≡ before.accounts → OnlyFree store done
    → (IsRestBeside own store.area.free store.area.blobs → IsRest done.area.free done.area.blobs)
    → Commits old old store.journal store.area own before before (Ok done)
released_keeps old store done own before law accounts same rest = record {
  any_moment = λ held. weaker old old _ _ (stays_start old store.journal store.area.blobs before law held) (λ i stands. inl stands);
  memory = λ held is. absurd (cc is);
  held = λ held. record { accounts = same.accounts ∙ accounts; held = held_still old store done before same held };
  kept = λ held beside. record { accounts = same.accounts ∙ accounts; held = held_still old store done before same held; rest = rest beside };
  touches = touches_start store.journal.area old law;
}

-- an event with another body
other_body : (before after : Accounts) (k : List ℕ) (m : ℕ) (e : Event) (body freed : List ℕ) → IsEventOf before after (event_at k m e []) freed → IsEventOf before after (event_at k m e body) freed
other_body before after k m e body freed event = record { lawful = event.lawful; becomes = event.becomes; change = event.change; after_is = event.after_is }

-- the bytes are the body that an event tells
told_body : (e : Event) (body : List ℕ) → body_in e ≡ Some (length body, leaves_of body) → IsBodyOf e body
told_body e body is = subst (λ (r : Option (ℕ × List (List ℕ))). elim r as (λ _. Type 0) [ None ↦ body ≡ [] | Some told ↦ (told.0 ≡ length body) × (told.1 ≡ leaves_of body) ]) (sym is) (refl, refl)

module _ (k : List ℕ) (m : ℕ) (freed : List ℕ) where
  abbrev its : Option Event → List ℕ → List AccountEvent
  its event body = change_events k m (record { event = event; freed = freed }) body

  abbrev Changed : Option (ℕ × List (List ℕ)) → Accounts → Accounts → Option Event → Type 0
  Changed told before after event = IsChangeWith told before after k m (record { event = event; freed = freed })

  -- a change without an event gives the blocks of its body back
  pub none_ends : (old : Told) (store done : Store) (own : List Run) (before : State) (body : List ℕ) (told : Option (ℕ × List (List ℕ))) (event : Option Event) → event ≡ None → Lawful old
      → Changed told before.accounts store.accounts event → OnlyFree store done → (IsRestBeside own store.area.free store.area.blobs → IsRest done.area.free done.area.blobs)
      → Commits old old store.journal store.area own before (after_all before (its event body)) (Ok done)
  none_ends old store done own before body told None none law is same rest = released_keeps old store done own before law is same rest
  none_ends old store done own before body told (Some event) none law is same rest = absurd (cc none)

  -- and one with an event is kept with its body
  pub some_ends : (old new : Told) (store : Store) (own : List Run) (before : State) (body : List ℕ) (event : Option Event) (e : Event) (result : Result Store StoreFault) → event ≡ Some e
      → Changed (Some (length body, leaves_of body)) before.accounts store.accounts event
      → (IsEventOf before.accounts store.accounts (event_at k m e body) freed → IsBodyOf e body
      → Commits old new store.journal store.area own before (after_account_event before (event_at k m e body)) result)
      → Commits old new store.journal store.area own before (after_all before (its event body)) result
  some_ends old new store own before body None e result there is keeps = absurd (cc there)
  some_ends old new store own before body (Some event) e result there is keeps =
      let same : e ≡ event = cc in
      let its_body : body_in e ≡ Some (length body, leaves_of body) = ap body_in same ∙ is.0 in
      subst (λ (x : Event). Commits old new store.journal store.area own before (after_account_event before (event_at k m x body)) result) same
      (keeps (other_body before.accounts store.accounts k m e body freed (subst (λ (x : Event). IsEventOf before.accounts store.accounts (event_at k m x []) freed) (sym same) is.1)) (told_body e body its_body))

  pub none_fills : (store done : Store) (own : List Run) (body : List ℕ) (event : Option Event) → event ≡ None → done.journal ≡ store.journal → Grows store.journal (room_with own (its event body)) (Ok done)
  none_fills store done own body None none same = subst (λ (j : Journal). Grows j 0 (Ok done)) same (grows_not done)
  none_fills store done own body (Some event) none same = absurd (cc none)

  pub some_fills : (journal : Journal) (own : List Run) (body : List ℕ) (event : Option Event) (e : Event) (result : Result Store StoreFault) → event ≡ Some e
      → Lengthens journal (record_room (event_at k m e []) own) result → Grows journal (room_with own (its event body)) result
  some_fills journal own body None e result there lengthens = absurd (cc there)
  some_fills journal own body (Some event) e result there lengthens =
      let same : e ≡ event = cc in
      subst (λ (x : Event). Grows journal (room_with own (event_at k m x body ∷ [])) result) same
      (grows_by journal (record_room (event_at k m e []) own) result (omega arith) lengthens)

-- a store that goes on as its parts say
pub ended : (old new : Told) (store : Store) (own : List Run) (happened : List AccountEvent) (result : Result Store StoreFault)
    → ((state : State) → store.accounts ≡ state.accounts → Commits old new store.journal store.area own state (after_all state happened) result)
    → (happened ≡ [] → Looks old new) → Ends old new store own happened result
ended old new store own happened result keeps idle = record {
  any_moment = λ state is. (keeps state is.accounts).any_moment is.held;
  memory = λ state is wanting. (keeps state is.accounts).memory is.held wanting;
  held = λ state is. (keeps state is.accounts).held is.held;
  kept = λ state is beside. (keeps state is.accounts).kept is.held beside;
  touches = (keeps (record { accounts = store.accounts; bodies = map.empty }) refl).touches;
  idle = idle;
}

-- a body that became a blob leaves the others open
pub named_stays : (store : Store) (k : List ℕ) (number : ℕ) (own : List Run) (freed : List ℕ) (result : Result Store StoreFault) → IfOk result (λ done. done.accounts ≡ store.accounts)
    → IfOk result (λ done. HasNamed store.area done.area k number own freed) → IfOk result (λ done. StaysBeside own store done)
named_stays store k number own freed (Ok done) accounts named = record { accounts = accounts; others = named.others }
named_stays store k number own freed (Err why) accounts named = tt

-- the body of a change's event has these leaves
pub ends_told : (told : ℕ × List (List ℕ)) (before after : Accounts) (k : List ℕ) (m : ℕ) (event : Option Event) (freed : List ℕ) (count : ℕ)
    → IsChangeWith (Some told) before after k m (record { event = event; freed = freed }) → count ≡ length told.1
    → IfSome event (λ e. IsSome (body_in e) × (count ≡ leaf_count e))
ends_told told before after k m None freed count is same = tt
ends_told told before after k m (Some e) freed count is same = (
  subst IsSome (sym is.0) refl,
  same ∙ sym (ap (λ (r : Option (ℕ × List (List ℕ))). elim r as (λ _. ℕ) [ None ↦ 0 | Some its ↦ length its.1 ]) is.0),
)

-- and the account draws the number that its counter had
pub ends_drawn : (told : ℕ × List (List ℕ)) (before after : Accounts) (k : List ℕ) (m : ℕ) (event : Option Event) (freed : List ℕ)
    → IsChangeWith (Some told) before after k m (record { event = event; freed = freed })
    → IfSome event (λ e. (account_in before k).counter < (account_in after k).counter)
ends_drawn told before after k m None freed is = tt
ends_drawn told before after k m (Some e) freed is =
    let becomes : AccountState = is.1.becomes in
    let fits = (of_replayed (account_in before k) m e (becomes, freed) is.1.change).1 in
    let draws : (account_in before k).counter < becomes.counter = (counts (account_in before k) m (becomes, freed) e fits).draws (ap is_some is.0) in
    subst (λ (s : AccountState). (account_in before k).counter < s.counter)
    (sym (ap (λ (all : Accounts). account_in all k) is.1.after_is ∙ account_after before k becomes k
    ∙ ap (λ (b : Bool). cond b becomes (account_in before k)) ((eq_by_cmp_equiv nat_list_cmp_total).refl k)))
    draws

-- a change of the accounts that is kept with its body
pub change_ends : (old new : Told) (store : Store) (afterwards : Accounts) (k : List ℕ) (m : ℕ) (change : Change) (own : List Run) (body : List ℕ) (result : Result Store StoreFault)
    → IsChangeWith (Some (length body, leaves_of body)) store.accounts afterwards k m change
    → ((before : State) → IsChangeWith (Some (length body, leaves_of body)) before.accounts afterwards k m change → (account_in store.accounts k).counter ≡ (account_in before.accounts k).counter
    → Commits old new store.journal store.area own before (after_all before (change_events k m change body)) result)
    → (change.event ≡ None → Looks old new) → Ends old new store own (change_events k m change body) result
change_ends old new store afterwards k m change own body result is keeps idle =
    ended old new store own (change_events k m change body) result
    (λ state same. keeps state (subst (λ (all : Accounts). IsChangeWith (Some (length body, leaves_of body)) all afterwards k m change) same is) (ap (λ (all : Accounts). (account_in all k).counter) same))
    (λ none. idle (no_event change.event change.freed none))
  where
    no_event : (event : Option Event) (freed : List ℕ) → change_events k m (record { event = event; freed = freed }) body ≡ [] → event ≡ None
    no_event None freed none = refl
    no_event (Some event) freed none = cc none

-- memory was wanting before anything was kept
pub no_memory_ends : (old : Told) (store : Store) (own : List Run) (happened : List AccountEvent) (result : Result Store StoreFault) → result ≡ Err fault.Memory → Lawful old → Ends old old store own happened result
no_memory_ends old store own happened result is law =
    ended old old store own happened result (λ state same. kept_without_memory old store.journal store.area own state (after_all state happened) result is law) (λ none. looks_start old law)

-- a body of this size and of these leaves
pub told_change : (size : ℕ) (leaves : List (List ℕ)) (before after : Accounts) (k : List ℕ) (m : ℕ) (change : Change) (body : List ℕ) → size ≡ length body → leaves ≡ leaves_of body
    → IsChangeWith (Some (size, leaves)) before after k m change → IsChangeWith (Some (length body, leaves_of body)) before after k m change
told_change size leaves before after k m change body size_is leaves_are is =
    subst (λ (n : ℕ). IsChangeWith (Some (n, leaves_of body)) before after k m change) size_is
    (subst (λ (l : List (List ℕ)). IsChangeWith (Some (size, l)) before after k m change) leaves_are is)

-- the blocks of a body by another name, and its events
pub ends_as : (old new : Told) (store : Store) (own runs : List Run) (happened events : List AccountEvent) (result : Result Store StoreFault) → own ≡ runs → happened ≡ events
    → Ends old new store own happened result → Ends old new store runs events result
ends_as old new store own runs happened events result own_is happened_is ends =
    subst (λ (l : List AccountEvent). Ends old new store runs l result) happened_is
    (subst (λ (r : List Run). Ends old new store r happened result) own_is ends)

pub grows_as : (journal : Journal) (own runs : List Run) (happened events : List AccountEvent) (result : Result Store StoreFault) → own ≡ runs → happened ≡ events
    → Grows journal (room_with own happened) result → Grows journal (room_with runs events) result
grows_as journal own runs happened events result own_is happened_is grows =
    subst (λ (l : List AccountEvent). Grows journal (room_with runs l) result) happened_is
    (subst (λ (r : List Run). Grows journal (room_with r happened) result) own_is grows)
