-- A crash amid acts one after another, and what the journal grew by.
use Rattle.std.proofs.Common.{◌≡◌, ℕ, ◌+◌, List, [], ◌++◌, length, take, sym, ap, subst, ◌∙◌, arith}
use Rattle.std.specs.Prelude.{min}
use Rattle.std.proofs.lemmas.List.{take_all, take_min, take-append-le, take-map}
use Rattle.std.proofs.Math.Seq.{take-append-add}
use Rattle.glacier_disk.specs.Image.{Image}
use Rattle.glacier_server.specs.Acts.{Act, keep, keeps, events_in, sent_by, after_acts, StopsAfter}
use Rattle.glacier_server.specs.Does.{Grew, StillGrew, Failing, nothing, receiving, sending, breaking}
use Rattle.glacier_server.specs.Events.{StandsForFirst}
use Rattle.glacier_server.specs.Rooms.{GrewBy}
use Rattle.glacier_server.proofs.ActLemmas.{sent_by-append, sent_by-keeps, after_acts-append, after-keeps, events_in-append}
use Rattle.glacier_server.proofs.RoomLemmas.{grew_none, grew_behind}
use Rattle.glacier_replay.specs.Standing.{Stands}
use Rattle.glacier_replay.specs.Changes.{State}
use Rattle.glacier_vault.specs.Accounts.{AccountEvent}
use Rattle.glacier_server.specs.Placed.{Placed}

-- a crash before the first act, and behind the last one
pub stops_first : {before : List (List ℕ)} {state : State} {acts : List Act} {i : Image} {sent : List (List ℕ)}
    → sent ≡ before → Stands i state → StopsAfter before state acts i sent
stops_first is stands = record { k = 0; bytes = is; stands = stands }

pub stops_last : {before : List (List ℕ)} (state after : State) (acts : List Act) {i : Image} {sent : List (List ℕ)}
    → after ≡ after_acts state acts → sent ≡ sent_by acts before → Stands i after
    → StopsAfter before state acts i sent
stops_last {before = before} state after acts {i = i} at is stands =
    let all : take (length acts) acts ≡ acts = take_all (length acts) acts (omega arith) in
    record {
      k = length acts;
      bytes = is ∙ ap (λ (l : List Act). sent_by l before) (sym all);
      stands = subst (λ (s : State). Stands i s) (at ∙ ap (after_acts state) (sym all)) stands;
    }

-- a crash amid the first acts is one amid all, and so is one amid the others
pub sooner : {before : List (List ℕ)} {state : State} (first more : List Act) {i : Image} {sent : List (List ℕ)}
    → StopsAfter before state first i sent → StopsAfter before state (first ++ more) i sent
sooner {before = before} {state = state} first more {i = i} x =
    let n : ℕ = min x.k (length first) in
    let same : take x.k first ≡ take n (first ++ more) = sym (take_min x.k first)
    ∙ sym (take-append-le n first more (omega arith)) in
    record {
      k = n;
      bytes = x.bytes ∙ ap (λ (l : List Act). sent_by l before) same;
      stands = subst (λ (l : List Act). Stands i (after_acts state l)) same x.stands;
    }

pub later : {before : List (List ℕ)} {state : State} (first more : List Act) {i : Image} {sent : List (List ℕ)}
    → StopsAfter (sent_by first before) (after_acts state first) more i sent
    → StopsAfter before state (first ++ more) i sent
later {before = before} {state = state} first more {i = i} x =
    let split : take (length first + x.k) (first ++ more) ≡ first ++ take x.k more = take-append-add first more x.k in
    record {
      k = length first + x.k;
      bytes = x.bytes ∙ sym (sent_by-append first (take x.k more) before)
          ∙ ap (λ (l : List Act). sent_by l before) (sym split);
      stands = subst (λ (s : State). Stands i s) (sym (after_acts-append state first (take x.k more))
          ∙ ap (after_acts state) (sym split)) x.stands;
    }

-- behind the first of these events, before which just these bytes had been sent
pub stops_first_of : {before : List (List ℕ)} {state : State} {i : Image} {sent : List (List ℕ)}
    (events : List AccountEvent) → sent ≡ before → StandsForFirst state events i
    → StopsAfter before state (keeps events) i sent
stops_first_of {before = before} {state = state} {i = i} events is x =
    let same : take x.count (keeps events) ≡ keeps (take x.count events) = take-map keep x.count events in
    record {
      k = x.count;
      bytes = is ∙ sym (sent_by-keeps (take x.count events) before)
          ∙ ap (λ (l : List Act). sent_by l before) (sym same);
      stands = subst (λ (s : State). Stands i s) (sym (after-keeps state (take x.count events))
          ∙ ap (after_acts state) (sym same)) x.stands;
    }

-- what the journal grew by
grew_no_event : (placed : Placed) (acts : List Act) → events_in acts ≡ [] → Grew placed placed acts
grew_no_event placed acts none =
    subst (λ (l : List AccountEvent). GrewBy placed.store.journal.length placed.store.journal.length l) (sym none)
    (grew_none placed.store.journal.length)

pub grew_same : (failing : Failing) (placed : Placed) (acts : List Act) → events_in acts ≡ []
    → StillGrew failing placed placed acts
grew_same nothing placed acts none = grew_no_event placed acts none
grew_same receiving placed acts none = grew_no_event placed acts none
grew_same sending placed acts none = grew_no_event placed acts none
grew_same breaking placed acts none = tt

pub grew_joined : (s m e : Placed) (first more : List Act) → Grew s m first → Grew m e more → Grew s e (first ++ more)
grew_joined s m e first more one two =
    subst (λ (l : List AccountEvent). GrewBy s.store.journal.length e.store.journal.length l) (sym (events_in-append first more))
    (grew_behind s.store.journal.length m.store.journal.length e.store.journal.length (events_in first) (events_in more) one two)

pub grew_then : (failing : Failing) (s m e : Placed) (first more : List Act) → Grew s m first
    → StillGrew failing m e more → StillGrew failing s e (first ++ more)
grew_then nothing s m e first more one two = grew_joined s m e first more one two
grew_then receiving s m e first more one two = grew_joined s m e first more one two
grew_then sending s m e first more one two = grew_joined s m e first more one two
grew_then breaking s m e first more one two = tt
