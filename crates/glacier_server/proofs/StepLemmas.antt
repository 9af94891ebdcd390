-- What one call does on the last connection.
use Rattle.std.proofs.Common.{◌≡◌, ℕ, List, [], ◌∷◌, ◌++◌, length, take, refl, sym, ap, subst, ◌∙◌, arith, append-nil}
use Rattle.std.specs.FinMap as map
use Rattle.std.specs.Prelude.{Result, Ok, Err}
use Rattle.std.proofs.lemmas.List.Elements.{All-nil, All-cons}
use Rattle.glacier_disk.specs.Calls.{ReceiveCall, Receives, SendCall, NowCall, SendsAll, SendsFirst}
use Rattle.glacier_disk.specs.Network.{Connection, Wait, OnLast, Takes as TakesStep, TakesNone, sent_on, on_last, wait_of}
use Rattle.glacier_disk.specs.Told.{Told, Lawful, ByDisk}
use Rattle.glacier_disk.proofs.Connections.{sent_same, sent_more}
use Rattle.glacier_replay.specs.Changes.{after_all}
use Rattle.glacier_vault.specs.Accounts.{AccountEvent}
use Rattle.glacier_server.specs.Acts.{sends as acts, keeps as acts_of, bytes_of}
use Rattle.glacier_server.specs.Session.{Session, taking, reading, acting}
use Rattle.glacier_server.specs.Transfer.{Transfer, TakenAt, Takes, SentAll, SentPart, receiving_if, received, Fails, current, others}
use Rattle.glacier_server.specs.Does.{Does, Failing, nothing, receiving, sending, breaking}
use Rattle.glacier_server.proofs.ActLemmas.{bytes_of-sends, bytes_of-keeps, events_in-keeps}
use Rattle.glacier_server.proofs.DoesLemmas.{does_quiet, does_send, does_keep}
use Rattle.glacier_server.specs.Events.{KeepsFirst}
use Rattle.glacier_store.proofs.OpenLemmas.{none_drawn}
use Rattle.glacier_server.specs.Rooms.{GrewBy}
use Rattle.glacier_server.specs.Placed.{Agrees, IsKept, Placed}

pub current-snoc : (before : List Connection) (c : Connection) → current (before ++ c ∷ []) ≡ c
current-snoc [] c = refl
current-snoc (b ∷ []) c = refl
current-snoc (b ∷ d ∷ before) c = current-snoc (d ∷ before) c

pub others-snoc : (before : List Connection) (c : Connection) → others (before ++ c ∷ []) ≡ before
others-snoc [] c = refl
others-snoc (b ∷ []) c = refl
others-snoc (b ∷ d ∷ before) c = ap (λ (l : List Connection). b ∷ l) (others-snoc (d ∷ before) c)

-- the two ends of a step, as the last connections
record Ends (step : Connection → Connection → Type 0) (old new : List Connection) : Type 0 where
  from : Connection
  to : Connection
  was : current old ≡ from
  is : current new ≡ to
  same : others new ≡ others old
  steps : step from to

ends : {step : Connection → Connection → Type 0} {old new : List Connection} → OnLast step old new → Ends step old new
ends on = record {
  from = on.from;
  to = on.to;
  was = ap current on.was ∙ current-snoc on.before on.from;
  is = ap current on.is ∙ current-snoc on.before on.to;
  same = ap others on.is ∙ others-snoc on.before on.to ∙ sym (others-snoc on.before on.from) ∙ sym (ap others on.was);
  steps = on.steps;
}

-- the bytes sent on each connection, where the last one sends none, or these
same_sent : {step : Connection → Connection → Type 0} {old new : List Connection} (on : OnLast step old new)
    → on.to.sent ≡ on.from.sent → sent_on new ≡ sent_on old
same_sent on same = ap sent_on on.is ∙ sent_same on.before on.from on.to same ∙ ap sent_on (sym on.was)

more_sent : {step : Connection → Connection
    → Type 0} {old new : List Connection} (on : OnLast step old new) (bytes : List ℕ)
    → on.to.sent ≡ on.from.sent ++ bytes → sent_on new ≡ on_last bytes (sent_on old)
more_sent on bytes more = ap sent_on on.is ∙ sent_more on.before on.from on.to bytes more
    ∙ ap (λ (l : List Connection). on_last bytes (sent_on l)) (sym on.was)

-- one step, whose parts are these
transfer_by : {old new : Told} {step : Connection → Connection
    → Type 0} (e : Ends step old.connections new.connections) (s : Session) (sent : List ℕ) (failing : Failing)
    → Does old new s.before s.after s.acts failing → bytes_of s.acts ≡ sent → new.readings ≡ old.readings ++ s.readings
    → e.to.taken ≡ e.from.taken ++ s.taken → e.from.coming ≡ s.taken ++ e.to.coming
    → e.to.sent ≡ e.from.sent ++ sent → e.to.waits ≡ e.from.waits ++ s.waits
    → Fails failing e.from e.to → Transfer old new s failing
transfer_by {old = old} {new = new} e s sent failing does bytes read took coming sent_now waited fails = record {
  took = ap (λ (c : Connection). c.taken) e.is ∙ took ∙ ap (λ (c : Connection). c.taken ++ s.taken) (sym e.was);
  coming = ap (λ (c : Connection). c.coming) e.was ∙ coming ∙ ap (λ (c : Connection). s.taken ++ c.coming) (sym e.is);
  sent_now = ap (λ (c : Connection). c.sent) e.is ∙ sent_now ∙ ap (λ (c : Connection). c.sent ++ sent) (sym e.was)
      ∙ ap (λ (l : List ℕ). (current old.connections).sent ++ l) (sym bytes);
  waited = ap (λ (c : Connection). c.waits) e.is ∙ waited ∙ ap (λ (c : Connection). c.waits ++ s.waits) (sym e.was);
  read = read;
  rest = e.same;
  fails = subst (λ (c : Connection). Fails failing c (current new.connections)) (sym e.was) (subst (λ
      (c : Connection). Fails failing e.from c) (sym e.is) fails);
  does = does;
}

-- a receive waits where nothing was taken yet
module _ {T E : Type 0} {old new : Told} {result : Result T E} (call : ReceiveCall old new result) where
  abbrev wait : Wait
  wait = wait_of (current old.connections)

  here : (bytes : List ℕ) → TakenAt wait bytes (λ l. l ≡ []) wait
  here bytes = record {
    till = [];
    later = bytes;
    cut = refl;
    at = ap (λ (k : ℕ). (let w : Wait = record { taken = k; sent = length (current old.connections).sent } in w))
        (omega arith);
    holds = refl;
  }

  waits_at : {step : Connection → Connection → Type 0} (e : Ends step old.connections new.connections)
      → e.to.waits ≡ e.from.waits ++ wait_of e.from ∷ [] → e.to.waits ≡ e.from.waits ++ wait ∷ []
  waits_at e is = is ∙ ap (λ (c : Connection). e.from.waits ++ wait_of c ∷ []) (sym e.was)

  takes_some : {bytes : List ℕ} → OnLast (TakesStep bytes) old.connections new.connections
      → Takes old new bytes (λ l. l ≡ []) nothing
  takes_some {bytes = bytes} on =
      let e = ends on in record {
        waits = wait ∷ [];
        transfer = λ placed. transfer_by e (taking placed bytes (wait ∷ [])) [] nothing (does_quiet placed nothing
            call.disk.rests call.time (same_sent on on.steps.sent)) refl (call.readings ∙ sym (append-nil _))
            e.steps.taken e.steps.coming (e.steps.sent
            ∙ sym (append-nil _)) (waits_at e e.steps.waits) (e.steps.receives_failed, e.steps.sends_failed);
        each = All-cons (TakenAt wait bytes (λ l. l ≡ [])) wait [] (here bytes) (All-nil (TakenAt wait bytes
            (λ l. l ≡ [])));
      }

  takes_nothing : OnLast TakesNone old.connections new.connections → Takes old new [] (λ l. l ≡ []) receiving
  takes_nothing on =
      let e = ends on in record {
        waits = wait ∷ [];
        transfer = λ placed. transfer_by e (taking placed [] (wait ∷ [])) [] receiving (does_quiet placed receiving
            call.disk.rests call.time (same_sent on on.steps.sent)) refl (call.readings ∙ sym (append-nil _))
            (e.steps.taken ∙ sym (append-nil _)) (sym e.steps.coming) (e.steps.sent
            ∙ sym (append-nil _)) (waits_at e e.steps.waits) (e.steps.receives_failed, e.steps.sends_failed);
        each = All-cons (TakenAt wait [] (λ l. l ≡ [])) wait [] (here []) (All-nil (TakenAt wait [] (λ l. l ≡ [])));
      }

-- what a receive took, whatever it answered
pub takes_once : {E : Type 0} {old new : Told} (result : Result ℕ E) (before after : List ℕ)
    → ReceiveCall old new result → Receives before after old.connections new.connections result
    → Takes old new (received result after) (λ l. l ≡ []) (receiving_if result)
takes_once (Ok n) before after call receives = takes_some call receives.takes
takes_once (Err e) before after call receives = takes_nothing call receives.failed

pub none_coming : {old new : List Connection} → OnLast (λ from to. to.coming ≡ []) old new → (current new).coming ≡ []
none_coming on = let e = ends on in ap (λ (c : Connection). c.coming) e.is ∙ e.steps

-- a send, all of whose bytes went out, or the first ones
pub sent_all : {T E : Type 0} {old new : Told} {result : Result T E} (bytes : List ℕ) → SendCall old new result
    → SendsAll bytes old new → SentAll old new bytes
sent_all bytes call all placed =
    let e = ends all.step in
    transfer_by e (acting placed placed (acts bytes)) bytes nothing (does_send placed nothing bytes call.disk.rests all.time
    (more_sent all.step bytes all.step.steps.sent)) (bytes_of-sends bytes)
    (call.readings ∙ sym (append-nil _)) (e.steps.taken
    ∙ sym (append-nil _)) (sym e.steps.coming) e.steps.sent (e.steps.waits
    ∙ sym (append-nil _)) (e.steps.receives_failed, e.steps.sends_failed)

pub sent_part : {T E : Type 0} {old new : Told} {result : Result T E} (bytes : List ℕ) → SendCall old new result
    → (n : ℕ) → SendsFirst n bytes old new → SentPart old new bytes
sent_part bytes call n first = (
  n,
  λ placed.
      let e = ends first.step in
      transfer_by e (acting placed placed (acts (take n bytes))) (take n bytes) sending
      (does_send placed sending (take n bytes) call.disk.rests first.time (more_sent first.step (take n bytes) first.step.steps.sent)) (bytes_of-sends
      (take n bytes))
      (call.readings ∙ sym (append-nil _)) (e.steps.taken
      ∙ sym (append-nil _)) (sym e.steps.coming) e.steps.sent (e.steps.waits
      ∙ sym (append-nil _)) (e.steps.receives_failed, e.steps.sends_failed),
)

-- calls that touch no connection
untouched : {old new : Told} (s : Session) (failing : Failing) → ((c : Connection) → Fails failing c c) → s.taken ≡ []
    → bytes_of s.acts ≡ [] → s.waits ≡ [] → Does old new s.before s.after s.acts failing
    → new.readings ≡ old.readings ++ s.readings → new.connections ≡ old.connections → Transfer old new s failing
untouched {old = old} {new = new} s failing fails none silent idle does read same = record {
  took = ap (λ (cs : List Connection). (current cs).taken) same ∙ sym (append-nil _)
      ∙ ap (λ (l : List ℕ). (current old.connections).taken ++ l) (sym none);
  coming = ap (λ (cs : List Connection). (current cs).coming) (sym same)
      ∙ ap (λ (l : List ℕ). l ++ (current new.connections).coming) (sym none);
  sent_now = ap (λ (cs : List Connection). (current cs).sent) same ∙ sym (append-nil _)
      ∙ ap (λ (l : List ℕ). (current old.connections).sent ++ l) (sym silent);
  waited = ap (λ (cs : List Connection). (current cs).waits) same ∙ sym (append-nil _)
      ∙ ap (λ (l : List Wait). (current old.connections).waits ++ l) (sym idle);
  read = read;
  rest = ap others same;
  fails = subst (λ (cs : List Connection). Fails failing (current old.connections) (current cs)) (sym same)
      (fails (current old.connections));
  does = does;
}

-- a reading
pub reads : {old new : Told} (placed : Placed) (r : ℕ) → NowCall old new → new.readings ≡ old.readings ++ r ∷ []
    → Transfer old new (reading placed r) nothing
reads placed r call is = untouched (reading placed r) nothing (λ c. (refl, refl)) refl refl refl
    (does_quiet placed nothing call.disk.rests call.time (ap sent_on call.connections)) is call.connections

-- calls of the store, by which events are kept, or the server breaks off behind some first ones of them
module _ {old new : Told} (law : Lawful new) (alone : ByDisk old new) (placed : Placed) (events : List AccountEvent)
    (leaves : IsKept old placed → KeepsFirst old new placed.state events) where
  no_reading : new.readings ≡ old.readings ++ []
  no_reading = alone.readings ∙ sym (append-nil _)

  pub keeps_all : (after : Placed) → after.state ≡ after_all placed.state events → (Agrees placed → Agrees after)
      → GrewBy placed.store.journal.length after.store.journal.length events → (IsKept old placed → IsKept new after)
      → Transfer old new (acting placed after (acts_of events)) nothing
  keeps_all after is same grew kept =
      untouched (acting placed after (acts_of events)) nothing (λ c. (refl, refl)) refl (bytes_of-keeps events) refl
      (does_keep placed after events nothing law alone is same
      (subst (λ (l : List AccountEvent). GrewBy placed.store.journal.length after.store.journal.length l) (sym
      (events_in-keeps events)) grew)
      leaves kept) no_reading alone.connections

  -- the store that is given up then, with the accounts after them
  pub left_after : Placed
  left_after =
      let state = after_all placed.state events in
      record {
        store = record {
          accounts = state.accounts;
          area = record { free = []; blobs = map.empty };
          journal = placed.store.journal;
          drawn = none_drawn state.accounts map.empty refl;
        };
        state = state;
      }

  pub keeps_some : Transfer old new (acting placed left_after (acts_of events)) breaking
  unfolding left_after
  keeps_some =
      let after = left_after in
      untouched (acting placed after (acts_of events)) breaking (λ c. (refl, refl)) refl (bytes_of-keeps events) refl
      (does_keep placed after events breaking law alone refl (λ same. refl) tt leaves (λ kept. tt)) no_reading alone.connections
