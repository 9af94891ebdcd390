-- All is done for a message whose body is whole, before a byte of its reply is sent.
use Rattle.std.proofs.Common.{◌≡◌, ℕ, ◌+◌, true, false, List, [], ◌++◌, length, take, drop, None, Ok, Err, sym, ap, subst, refl, ◌∙◌, arith, append-nil}
use Rattle.std.specs.Option.{is_some}
use Rattle.std.specs.Prelude.{Result}
use Rattle.std.proofs.Math.Seq.{drop-append-add, take-append-add}
use Rattle.glacier_disk.specs.Told.{Told, Lawful, ByDisk}
use Rattle.glacier_http.specs.declared.head_spans.HeadSpans.{HeadSpans}
use Rattle.glacier_http.specs.declared.reply.Reply.{Reply}
use Rattle.glacier_http.specs.Messages.{Message, good as Good, last_end}
use Rattle.glacier_machine.specs.declared.config.Config.{Config}
use Rattle.glacier_machine.specs.Outcomes.{Outcome, one, outcome_events}
use Rattle.glacier_server.specs.Acts.{Act, keeps as acts_of}
use Rattle.glacier_server.specs.Admissions.{AdmitsAt}
use Rattle.glacier_server.specs.Begun.{IsBulkAt}
use Rattle.glacier_server.specs.Breaking.{BreaksOff, HasBroken}
use Rattle.glacier_server.specs.declared.admission.Admission.TheVariants.{Refused}
use Rattle.glacier_server.specs.declared.answered.Answered.{Answered}
use Rattle.glacier_server.specs.declared.end.ServeFault.{ServeFault}
use Rattle.glacier_server.specs.Done.{HasBody, HasDone}
use Rattle.glacier_server.specs.Events.{KeepsOutcome}
use Rattle.glacier_server.specs.Exchange.{Standing}
use Rattle.glacier_server.specs.Front.{AtFront}
use Rattle.glacier_server.specs.Machine.{after, begun_events, first_events, further, happened}
use Rattle.glacier_server.specs.Out.{begin_acts, further_acts, kept_acts}
use Rattle.glacier_server.specs.Placed.{Placed, placed_as}
use Rattle.glacier_server.specs.Session.{Session, answering}
use Rattle.glacier_server.specs.Texts.{answered_of}
use Rattle.glacier_server.specs.Turns.{whole}
use Rattle.glacier_server.proofs.CommitLemmas.{committed, broke}
use Rattle.glacier_server.proofs.EventLemmas.{bulk_begun, none_begun}
use Rattle.glacier_server.proofs.FrontLemmas.{answers_by, keeps_by}
use Rattle.glacier_server.proofs.SessionLemmas.{held_on}
use Rattle.glacier_server.proofs.TransferLemmas.{acts_then, says}
use Rattle.glacier_store.specs.declared.store.Store.{Store}
use Rattle.glacier_vault.specs.Accounts.{AccountEvent}

module _ {config : Config} {from : Standing} {spans : HeadSpans} {used : ℕ} {kept : List ℕ} {now : Placed} {r : ℕ}
    {a b : Told} (body : HasBody config from spans used kept now r a b) where
  abbrev message : Message
  message = Good body.head body.body

  abbrev first : List Act
  first = begin_acts config from.placed.state body.head r

  abbrev taken : Session
  taken = answering from.placed now body.got first r body.waits

  -- what holds of the message at the front holds of it
  at_message : (holds : Message → Type 0) → AtFront from.unread spans kept holds → holds message
  at_message holds each = each body.head body.behind body.body body.reads body.counted body.size body.is_kept

  -- it is refused whatever its body is: it has no event but of the time that passes, and those were kept at its head
  module _ (bulk : IsBulkAt from.unread true) (store : Store) (reply : Reply)
      (admits : AdmitsAt config from r spans.content_length store (Refused reply)) where
    abbrev time : List AccountEvent
    time = begun_events config from.placed.state body.head r

    outcome_is : one config from.placed.state.accounts message r ≡ record {
      reply = reply;
      output = None;
      passed = (one config from.placed.state.accounts (Good body.head []) r).passed;
      done = [];
    }
    outcome_is = admits body.head body.behind body.reads body.body (sym body.size)

    happened_is : happened config from.placed.state message r ≡ time ++ []
    unfolding happened
    happened_is = ap outcome_events outcome_is ∙ ap (λ (l : List AccountEvent). l ++ [])
        (sym (bulk_begun config from.placed.state body.head r (bulk body.head body.behind body.reads)))

    no_further : further config from.placed.state message r ≡ []
    unfolding further
    no_further = ap (drop (length time)) happened_is ∙ ap (λ (n : ℕ). drop n (time ++ [])) (omega arith)
        ∙ drop-append-add time [] 0

    pub refused_done : (answer : Answered) → answer ≡ record { reply = reply; output = None }
        → HasDone config from used spans.close now answer r a b
    refused_done answer is =
        let more = acts_of (further config from.placed.state message r) in record {
          message = message;
          got = body.got;
          waits = body.waits;
          begins = body.begins;
          end = body.end;
          answers = is ∙ sym (ap answered_of outcome_is);
          transfer = says taken (kept_acts config from.placed.state message r)
              (sym (ap (λ (l : List AccountEvent). first ++ acts_of l) no_further ∙ append-nil first)) body.transfer;
          idle = held_on body.waits more body.idle;
          kept = body.stays;
        }

-- what is kept of the body, said otherwise
pub kept_as : {config : Config} {from : Standing} {spans : HeadSpans} {used : ℕ} {kept other : List ℕ} {now : Placed}
    {r : ℕ} {a b : Told} → kept ≡ other → HasBody config from spans used kept now r a b
    → HasBody config from spans used other now r a b
kept_as {config = config} {from = from} {spans = spans} {used = used} {now = now} {r = r} {a = a} {b = b} same body =
    subst (λ (l : List ℕ). HasBody config from spans used l now r a b) same body

-- a message that isn't decided at its head: none of its events was kept before its body was whole
module _ {config : Config} {from : Standing} {spans : HeadSpans} {used : ℕ} {kept : List ℕ} {r : ℕ} {a b : Told}
    (body : HasBody config from spans used kept from.placed r a b) (plain : IsBulkAt from.unread false) where
  none_first : first_events config from.placed.state (message body) r ≡ []
  none_first = none_begun config from.placed.state body.head r (plain body.head body.behind body.reads)

  -- what it brings about, by the accounts of the store that stands there
  abbrev outcome : Message → Outcome
  outcome m = one config from.placed.store.accounts m r

  module _ {c : Told} (law : Lawful c) (alone : ByDisk b c) where
    calls_so : {T : Type 0} (result : Result (T × Store) ServeFault)
        → AtFront from.unread spans kept (λ m. KeepsOutcome {T = T} b c from.placed.store (outcome m) result)
        → KeepsOutcome {T = T} b c from.placed.store (one config from.placed.state.accounts (message body) r) result
    calls_so {T = T} result calls =
        at_message body
        (λ m. KeepsOutcome {T = T} b c from.placed.store (one config from.placed.state.accounts m r) result)
        (keeps_by config spans from.placed.store result body.stays.accounts calls)

    -- calls of the store keep them
    pub all_done : (x : Answered × Store) → AtFront from.unread spans kept (λ m. x.0 ≡ answered_of (outcome m))
        → AtFront from.unread spans kept (λ m. KeepsOutcome b c from.placed.store (outcome m) (Ok x))
        → HasDone config from used spans.close (placed_as x.1 (after config from.placed.state (message body) r)) x.0
        r a c
    all_done x answers calls =
        let m = message body in
        let left = placed_as x.1 (after config from.placed.state m r) in
        let more = acts_of (further config from.placed.state m r) in
        let commits = committed config from.placed m r none_first law alone x (calls_so (Ok x) calls) in record {
          message = m;
          got = body.got;
          waits = body.waits;
          begins = body.begins;
          end = body.end;
          answers = at_message body (λ m. x.0 ≡ answered_of (one config from.placed.state.accounts m r))
              (answers_by config spans x.0 body.stays.accounts answers);
          transfer = acts_then (taken body) left more body.transfer commits;
          idle = held_on body.waits more body.idle;
          kept = commits.does.kept body.stays;
        }

    -- or break the server off
    pub broken_off : {T : Type 0} (fault : ServeFault) → HasBroken fault b c
        → AtFront from.unread spans kept (λ m. KeepsOutcome {T = T} b c from.placed.store (outcome m) (Err fault))
        → BreaksOff config from a c fault
    broken_off {T = T} fault shows calls =
        let m = message body in
        let close = is_some (last_end from.count m) in
        let text = further_acts config from.placed.state m r close in
        let broke = broke config from.placed m r none_first law alone close {T = T} fault shows
        (calls_so (Err fault) calls) in
        let k : ℕ = broke.0 in
        let left : Placed = broke.1 in record {
          session = answering from.placed left body.got (first body ++ take k text) r body.waits;
          starts = refl;
          transfer = acts_then (taken body) left (take k text) body.transfer broke.2;
          part = record {
            turn = whole m;
            reading = r;
            rest = drop used from.unread;
            next = body.begins;
            one = refl;
            count = length (first body) + k;
            part = sym (take-append-add (first body) text k);
          };
          broken = broke.3;
          idle = held_on body.waits (take k text) body.idle;
        }
