-- Stretches of calls on the last connection, one after another.
use Rattle.std.proofs.Common.{◌≡◌, ℕ, ◌+◌, ◌-◌, ◌≤◌, ◌<◌, List, [], ◌++◌, length, refl, sym, ap, subst, ◌∙◌, arith, append-nil, append_assoc, length-append}
use Rattle.std.proofs.lemmas.List.Elements.{All-nil, All-append}
use Rattle.std.specs.Prelude.{All}
use Rattle.std.specs.FinMap as map
use Rattle.glacier_base.specs.Outside.{one_more}
use Rattle.glacier_disk.specs.declared.area.Area.TheVariants.{Lead}
use Rattle.glacier_disk.specs.Network.{Connection, Wait, wait_of}
use Rattle.glacier_disk.specs.Told.{Told}
use Rattle.glacier_server.specs.Acts.{Act, bytes_of}
use Rattle.glacier_server.specs.Session.{Session, taking, acting, wait_after}
use Rattle.glacier_server.specs.Transfer.{Transfer, TakenAt, Takes, TakesBehind, TakesOf, Fails, current}
use Rattle.glacier_server.specs.Does.{Does, Failing, nothing, receiving, sending, breaking}
use Rattle.glacier_server.proofs.ActLemmas.{bytes_of-append}
use Rattle.glacier_server.proofs.DoesLemmas.{does_nothing, does_then, does_break}
use Rattle.glacier_server.proofs.SessionLemmas.{joined, all_more, same_wait}
use Rattle.glacier_server.specs.Placed.{Placed}
use Rattle.glacier_store.proofs.OpenLemmas.{none_drawn}
use Rattle.glacier_store.specs.Calls.{no_state}

-- no call at all
pub stays : (s : Told) (placed : Placed) → Transfer s s (taking placed [] []) nothing
stays s placed = record {
  took = sym (append-nil _);
  coming = refl;
  sent_now = sym (append-nil _);
  waited = sym (append-nil _);
  read = sym (append-nil _);
  rest = refl;
  fails = (refl, refl);
  does = does_nothing s placed;
}

-- a call that fails behind others that didn't
fails_then : (failing : Failing) (a b c : Connection) → Fails nothing a b → Fails failing b c → Fails failing a c
fails_then nothing a b c first second = (second.0 ∙ first.0, second.1 ∙ first.1)
fails_then receiving a b c first second = (second.0 ∙ ap one_more first.0, second.1 ∙ first.1)
fails_then sending a b c first second = (second.0 ∙ first.0, second.1 ∙ ap one_more first.1)
fails_then breaking a b c first second = (second.0 ∙ first.0, second.1 ∙ first.1)

-- one stretch after another
pub then : {a b c : Told} {failing : Failing} (s t : Session) → t.before ≡ s.after → Transfer a b s nothing
    → Transfer b c t failing → Transfer a c (joined s t) failing
then {a = a} {b = b} {c = c} {failing = failing} s t leads first second = record {
  took = second.took ∙ ap (λ (l : List ℕ). l ++ t.taken) first.took ∙ append_assoc _ s.taken t.taken;
  coming = first.coming ∙ ap (λ (l : List ℕ). s.taken ++ l) second.coming ∙ sym (append_assoc s.taken t.taken _);
  sent_now =
      second.sent_now ∙ ap (λ (l : List ℕ). l ++ bytes_of t.acts) first.sent_now
      ∙ append_assoc _ (bytes_of s.acts) (bytes_of t.acts)
      ∙ ap (λ (l : List ℕ). (current a.connections).sent ++ l) (sym (bytes_of-append s.acts t.acts));
  waited = second.waited ∙ ap (λ (l : List Wait). l ++ t.waits) first.waited ∙ append_assoc _ s.waits t.waits;
  read = second.read ∙ ap (λ (l : List ℕ). l ++ t.readings) first.read ∙ append_assoc _ s.readings t.readings;
  rest = second.rest ∙ first.rest;
  fails = fails_then failing _ _ _ first.fails second.fails;
  does = does_then first.does (subst (λ (k : Placed). Does b c k t.after t.acts failing) leads second.does);
}

-- only acts behind it
pub acts_then : {a b c : Told} {failing : Failing} (s : Session) (after : Placed) (acts : List Act)
    → Transfer a b s nothing → Transfer b c (acting s.after after acts) failing
    → Transfer a c (record s { after = after; acts = s.acts ++ acts }) failing
acts_then {a = a} {c = c} {failing = failing} s after acts first second =
    subst (λ (x : Session). Transfer a c x failing) same (then s (acting s.after after acts) refl first second)
  where
    same : joined s (acting s.after after acts) ≡ record s { after = after; acts = s.acts ++ acts }
    same =
        ap (λ (l : List ℕ). record (joined s (acting s.after after acts)) { taken = l }) (append-nil s.taken)
        ∙ ap (λ (l : List ℕ). record s { after = after; acts = s.acts ++ acts; readings = l; waits = s.waits ++ [] }) (append-nil s.readings)
        ∙ ap (λ (l : List Wait). record s { after = after; acts = s.acts ++ acts; waits = l }) (append-nil s.waits)

-- the same acts and state, said otherwise
pub says : {a b : Told} {failing : Failing} (s : Session) (acts : List Act) → s.acts ≡ acts
    → Transfer a b s failing → Transfer a b (record s { acts = acts }) failing
says {a = a} {b = b} {failing = failing} s acts same x = subst (λ (l : List Act). Transfer a b
    (record s { acts = l }) failing) same x

pub leads : {a b : Told} {failing : Failing} (s : Session) (after : Placed) → s.after ≡ after
    → Transfer a b s failing → Transfer a b (record s { after = after }) failing
leads {a = a} {b = b} {failing = failing} s after same x = subst (λ (k : Placed). Transfer a b
    (record s { after = k }) failing) same x

-- what failed, said otherwise
pub fails_as : {a b : Told} (s : Session) (failing other : Failing) → failing ≡ other → Transfer a b s failing
    → Transfer a b s other
fails_as {a = a} {b = b} s failing other same x = subst (λ (f : Failing). Transfer a b s f) same x

-- the server breaks off where nothing failed
pub breaks_off : {a b : Told} (s : Session) → Transfer a b s nothing → Transfer a b s breaking
breaks_off s x = record {
  took = x.took;
  coming = x.coming;
  sent_now = x.sent_now;
  waited = x.waited;
  read = x.read;
  rest = x.rest;
  fails = x.fails;
  does = does_break x.does;
}

-- the point behind a session
pub moved : {a b : Told} {failing : Failing} (s : Session) → Transfer a b s failing
    → wait_of (current b.connections) ≡ wait_after (wait_of (current a.connections)) s
moved {a = a} s x =
    same_wait _ _ _ _ (ap length x.took ∙ length-append (current a.connections).taken s.taken)
    (ap length x.sent_now ∙ length-append (current a.connections).sent (bytes_of s.acts))

-- only bytes were taken: in no call, and in one stretch after another
pub takes_none : (s : Told) (Holds : List ℕ → Type 0) → Takes s s [] Holds nothing
takes_none s Holds = record {
  waits = [];
  transfer = stays s;
  each = All-nil (TakenAt (wait_of
      (current s.connections)) [] Holds);
}

-- a store of no account
unkept : Placed
unkept = record {
  store = record {
    accounts = map.empty;
    area = record { free = []; blobs = map.empty };
    journal = record { area = Lead; length = 17; enough = omega arith; within = omega arith };
    drawn = none_drawn map.empty map.empty refl;
  };
  state = no_state;
}

-- the waits of two stretches, one after the other
module _ (start mid : Wait) (got more : List ℕ) (P Q : List ℕ → Type 0) (taken : mid.taken ≡ start.taken + length got)
    (sent : mid.sent ≡ start.sent) (leads_to : (l : List ℕ) → Q l → P (got ++ l)) where
  sooner : (w : Wait) → TakenAt start got P w → TakenAt start (got ++ more) P w
  sooner w x = record {
    till = x.till;
    later = x.later ++ more;
    cut = ap (λ (l : List ℕ). l ++ more) x.cut
        ∙ append_assoc x.till x.later more;
    at = x.at;
    holds = x.holds;
  }

  later : (w : Wait) → TakenAt mid more Q w → TakenAt start (got ++ more) P w
  later w x = record {
    till = got ++ x.till;
    later = x.later;
    cut = ap (λ (l : List ℕ). got ++ l) x.cut ∙ sym (append_assoc got x.till x.later);
    at = x.at ∙ same_wait _ _ _ _ (omega (arith, taken, length-append got x.till)) sent;
    holds = leads_to x.till x.holds;
  }

  pub waits_then : (first second : List Wait) → All (TakenAt start got P) first → All (TakenAt mid more Q) second
      → All (TakenAt start (got ++ more) P) (first ++ second)
  waits_then first second one two =
      All-append (TakenAt start (got ++ more) P) first second
      (all_more (TakenAt start got P) (TakenAt start (got ++ more) P) first sooner one)
      (all_more (TakenAt mid more Q) (TakenAt start (got ++ more) P) second later two)

module _ {a b c : Told} {failing : Failing} (got more : List ℕ) (P Q : List ℕ
    → Type 0) (first : Takes a b got P nothing) (second : Takes b c more Q failing) (leads_to : (l : List ℕ) → Q l
    → P (got ++ l)) where
  pub takes_then : Takes a c (got ++ more) P failing
  takes_then = let at = moved (taking unkept got first.waits) (first.transfer unkept) in record {
    waits = first.waits ++ second.waits;
    transfer = λ placed. then (taking placed got first.waits) (taking placed more second.waits) refl
        (first.transfer placed) (second.transfer placed);
    each = waits_then (wait_of (current a.connections)) (wait_of (current b.connections)) got more P Q
        (ap (λ (w : Wait). w.taken) at) (ap (λ (w : Wait). w.sent) at ∙ omega arith) leads_to first.waits second.waits
        first.each second.each;
  }

-- bytes behind those that were unread
pub behind_none : (s : Told) (unread : List ℕ) (Holds : List ℕ → Type 0) → TakesBehind s s unread unread Holds nothing
behind_none s unread Holds = record { got = []; behind = sym (append-nil unread); takes = takes_none s _ }

pub behind_once : {a b : Told} {now got : List ℕ} {failing : Failing} (unread : List ℕ) → now ≡ unread ++ got
    → Takes a b got (λ l. l ≡ []) failing → TakesBehind a b unread now (λ l. l ≡ unread) failing
behind_once {a = a} {got = got} unread is takes = record {
  got = got;
  behind = is;
  takes = record {
    waits = takes.waits;
    transfer = takes.transfer;
    each = all_more (TakenAt (wait_of (current a.connections)) got (λ l. l ≡ [])) (TakenAt (wait_of
        (current a.connections)) got (λ l. unread ++ l ≡ unread)) takes.waits
        (λ w x. record {
          till = x.till;
          later = x.later;
          cut = x.cut;
          at = x.at;
          holds = ap (λ
              (l : List ℕ). unread ++ l) x.holds ∙ append-nil unread;
        }) takes.each;
  };
}

pub behind_more : {a b c : Told} {unread mid now : List ℕ} {P : List ℕ → Type 0} {failing : Failing}
    → TakesBehind a b unread mid P nothing → P mid
    → TakesBehind b c mid now (λ l. l ≡ mid) failing → TakesBehind a c unread now P failing
behind_more {unread = unread} {mid = mid} {P = P} first at second = record {
  got = first.got ++ second.got;
  behind = second.behind ∙ ap (λ (l : List ℕ). l ++ second.got) first.behind ∙ append_assoc unread first.got second.got;
  takes = takes_then first.got second.got (λ l. P (unread ++ l)) (λ l. mid ++ l ≡ mid) first.takes second.takes
      (λ l same. subst P (still l same) at);
}
  where
    still : (l : List ℕ) → mid ++ l ≡ mid → mid ≡ unread ++ (first.got ++ l)
    still l same = sym same ∙ ap (λ (k : List ℕ). k ++ l) first.behind ∙ append_assoc unread first.got l

-- bytes of those that are missing
pub of_none : (s : Told) (missing : ℕ) → TakesOf s s missing missing nothing
of_none s missing = record { got = []; sum = omega arith; takes = takes_none s _ }

pub of_more : {a b c : Told} {missing mid left : ℕ} {failing : Failing} (more : List ℕ)
    → TakesOf a b missing mid nothing → 0 < mid → Takes b c more (λ l. l ≡ []) failing → left + length more ≡ mid
    → TakesOf a c missing left failing
of_more {missing = missing} more first some second sum = record {
  got = first.got ++ more;
  sum = omega (arith, first.sum, sum, length-append first.got more);
  takes = takes_then first.got more (λ l. length l < missing) (λ l. l ≡ []) first.takes second (λ l none. omega
      (arith, first.sum, some, length-append first.got l, ap length none));
}

-- the same, by the bytes that were there
abbrev pub of_behind : {a b : Told} {here now : List ℕ} {failing : Failing} (at filled missing end : ℕ) → end ≡ at + missing
    → TakesBehind a b here now (λ l. length l < end) failing → length here ≡ at → length now ≡ filled → filled ≤ end
    → TakesOf a b missing (end - filled) failing
of_behind {a = a} {here = here} at filled missing end is first here_is now_is within = record {
  got = first.got;
  sum = omega (arith, is, within, here_is, now_is, ap length first.behind, length-append here first.got);
  takes = record {
    waits = first.takes.waits;
    transfer = first.takes.transfer;
    each = all_more (TakenAt (wait_of (current a.connections)) first.got (λ l. length (here ++ l) < end))
        (TakenAt (wait_of (current a.connections)) first.got (λ l. length l < missing)) first.takes.waits
        (λ w x. record {
          till = x.till;
          later = x.later;
          cut = x.cut;
          at = x.at;
          holds = omega (arith, is, x.holds, here_is, length-append here x.till);
        }) first.takes.each;
  };
}
