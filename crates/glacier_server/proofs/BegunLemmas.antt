-- What is done for a good head before its body is whole.
use Rattle.std.proofs.Common.{◌≡◌, ℕ, ◌+◌, Bool, false, List, [], ◌++◌, length, take, drop, inl, inr, arith, append-nil, Some, sym, ap, subst, refl, ◌∙◌}
use Rattle.std.specs.Prelude.{Option, min, unwrap_or}
use Rattle.std.proofs.lemmas.Bool.{cases_lt}
use Rattle.std.proofs.lemmas.List.{take_min, take-append-le, take-map}
use Rattle.std.proofs.lemmas.List.Elements.{All-nil}
use Rattle.std.specs.Option.{is_some}
use Rattle.std.proofs.Math.Seq.{take-append-add}
use Rattle.httparse.specs.declared.spans.HeaderSpan.{HeaderSpan}
use Rattle.httparse.specs.Grammar.{RequestHead}
use Rattle.glacier_disk.specs.Told.{Told}
use Rattle.glacier_http.specs.declared.head_spans.HeadSpans.{HeadSpans}
use Rattle.glacier_http.specs.declared.head_spans.HeadStep.TheVariants as step
use Rattle.glacier_http.specs.Interim.{interim_of, interim_text}
use Rattle.glacier_http.specs.Judged.{expects}
use Rattle.glacier_http.specs.Messages.{good as Good, last_end}
use Rattle.glacier_http.specs.Opening.{BeginsHead}
use Rattle.glacier_http.specs.Step.{IsStep}
use Rattle.glacier_http.proofs.OpeningLemmas.{head_once}
use Rattle.glacier_machine.specs.declared.config.Config.{Config}
use Rattle.glacier_server.specs.Acts.{Act, send, sends, keeps}
use Rattle.glacier_server.specs.Begun.{HasBegun, HasPassed, HasRead, IsBulkAt}
use Rattle.glacier_server.specs.declared.end.End.TheVariants.{SendFault}
use Rattle.glacier_server.specs.Does.{nothing}
use Rattle.glacier_server.specs.Exchange.{Standing, AnswersPart, Exchanges, exchange_on}
use Rattle.glacier_server.specs.Machine.{begun_events}
use Rattle.glacier_server.specs.Out.{begin_acts, further_acts}
use Rattle.glacier_server.specs.Placed.{Placed}
use Rattle.glacier_server.specs.Session.{answering, acting}
use Rattle.glacier_server.specs.Turns.{Turn, IsNext, begun, whole, turn_acts}
use Rattle.glacier_server.specs.Transfer.{Transfer, SentAll, SentPart, current}
use Rattle.glacier_server.proofs.AnswerLemmas.{h, behind, begin, begins, begins_head, begins_more, body, none_whole}
use Rattle.glacier_server.proofs.EventLemmas.{none_begun}
use Rattle.glacier_server.proofs.ExtentLemmas.{Extends}
use Rattle.glacier_server.proofs.TransferLemmas.{stays, acts_then, says}
use Rattle.glacier_vault.specs.Accounts.{AccountEvent}

-- nothing is sent where there is no byte
pub sends_none : (s : Told) (text : List ℕ) → text ≡ [] → SentAll s s text
sends_none s text none = subst (λ (l : List ℕ). SentAll s s l) (sym none) (λ placed. stays s placed)

-- the interim line by the spans of a head
pub interim_is : (bytes : List ℕ) (headers : List HeaderSpan) (spans : HeadSpans) → IsStep bytes headers (step.Head spans)
    → (other : RequestHead) (behind : List ℕ) → BeginsHead bytes other behind
    → interim_text spans.expect spans.content_length ≡ interim_of other
interim_is bytes headers spans (head, after, begins, shows) other behind at =
    ap (λ (b : Bool). interim_text b spans.content_length) shows.expect
    ∙ ap (λ (o : Option ℕ). interim_text (expects head) (unwrap_or o 0)) (sym shows.content_length)
    ∙ ap interim_of (head_once bytes head other after behind begins at).0

-- a good head, of whose body no byte was taken behind those that were there
module _ (config : Config) (from : Standing) (headers : List HeaderSpan) (spans : HeadSpans) (used left : ℕ)
    (reading : ℕ)
    (is : IsStep from.unread headers (step.Head spans)) (extends : Extends from.unread spans used left) where
  -- what stands there, whose message may be whole
  pub record NextAtHead : Type 0 where
    pub turn : Turn
    pub rest : List ℕ
    pub next : IsNext (from.unread ++ []) turn rest
    pub more : List Act
    pub acts : turn_acts config from.count from.placed.state turn reading ≡ (begin config from headers spans used left reading is extends) ++ more

  pub turn_at : NextAtHead
  turn_at = elim (cases_lt 0 left) [
    | inl some ↦ record {
      turn = begun (h config from headers spans used left reading is extends);
      rest = (behind config from headers spans used left reading is extends) ++ [];
      next = (begins_more config from headers spans used left reading is extends [], none_whole config from headers spans used left reading is extends [] left (omega arith) some);
      more = [];
      acts = sym (append-nil (begin config from headers spans used left reading is extends));
    }
    | inr none ↦ record {
      turn = whole (Good (h config from headers spans used left reading is extends) (body config from headers spans used left reading is extends []));
      rest = drop used from.unread;
      next = begins config from headers spans used left reading is extends [] (omega (arith, none));
      more = further_acts config from.placed.state (Good (h config from headers spans used left reading is extends) (body config from headers spans used left reading is extends [])) reading (is_some (last_end from.count (Good (h config from headers spans used left reading is extends) (body config from headers spans used left reading is extends []))));
      acts = refl;
    }
  ]

  -- a first part of what is done at the head
  pub begun_part : (k : ℕ) (rest coming : List ℕ) (new : Placed)
      → AnswersPart config (exchange_on from rest coming (answering from.placed new [] (take k (begin config from headers spans used left reading is extends)) reading []))
  unfolding turn_at
  begun_part k rest coming new =
      let stands = turn_at in
      let j : ℕ = min k (length (begin config from headers spans used left reading is extends)) in record {
        turn = stands.turn;
        reading = reading;
        rest = stands.rest;
        next = stands.next;
        one = refl;
        count = j;
        part = sym (take_min k (begin config from headers spans used left reading is extends)) ∙ sym (take-append-le j (begin config from headers spans used left reading is extends) stands.more (omega arith))
            ∙ ap (λ (l : List Act). take j l) (sym stands.acts);
      }

-- the events that are kept at a head were kept
module _ (config : Config) (from : Standing) {headers : List HeaderSpan} (spans : HeadSpans)
    (is : IsStep from.unread headers (step.Head spans)) {a b : Told} {r : ℕ} (now : Placed)
    (passed : HasPassed config from now r a b) where
  -- the interim line was sent
  pub has_begun : {c : Told} → SentAll b c (interim_text spans.expect spans.content_length) → HasBegun config from now r a c
  has_begun sent = record {
    transfer = λ g behind begins.
        acts_then (answering from.placed now [] (keeps (begun_events config from.placed.state g r)) r []) now
        (sends (interim_of g)) (passed.transfer g behind begins)
        (says (acting now now (sends (interim_text spans.expect spans.content_length))) (sends (interim_of g))
        (ap sends (interim_is from.unread headers spans is g behind begins)) (sent now));
    kept = (sent now).does.kept passed.kept;
  }

  -- or a first part of it
  pub interim_unsent : {c : Told} → SentPart b c (interim_text spans.expect spans.content_length) → (to : Standing)
      → now ≡ to.placed → Exchanges config from to a c (Some SendFault)
  interim_unsent {c = c} (n, sent) to leaves =
      let extends : Extends from.unread spans _ _ = record { used_is = refl; left_is = refl } in
      let g = h config from headers spans _ _ r is extends in
      let events = keeps (begun_events config from.placed.state g r) in
      let k : ℕ = length events + n in
      let begins = begins_head config from headers spans _ _ r is extends in
      let same : interim_text spans.expect spans.content_length ≡ interim_of g = interim_is from.unread headers spans is g _ begins in record {
        session = answering from.placed now [] (take k (begin_acts config from.placed.state g r)) r [];
        starts = refl;
        leaves = leaves;
        transfer =
            says (answering from.placed now [] (events ++ sends (take n (interim_text spans.expect spans.content_length))) r [])
            (take k (begin_acts config from.placed.state g r))
            (ap (λ (l : List ℕ). events ++ sends (take n l)) same
            ∙ ap (λ (l : List Act). events ++ l) (sym (take-map send n (interim_of g)))
            ∙ sym (take-append-add events (sends (interim_of g)) n))
            (acts_then (answering from.placed now [] events r []) now
            (sends (take n (interim_text spans.expect spans.content_length))) (passed.transfer g _ begins) (sent now));
        exchange = begun_part config from headers spans _ _ r is extends k to.unread (current c.connections).coming now;
        idle = All-nil _;
      }

-- of a head at which no event is kept, a reading was taken
pub plain_passed : (config : Config) (from : Standing) {a b : Told} {r : ℕ} → IsBulkAt from.unread false
    → HasRead from.placed r a b → HasPassed config from from.placed r a b
plain_passed config from {a = a} {b = b} {r = r} plain read = record {
  transfer = λ g behind begins.
      subst (λ (l : List AccountEvent). Transfer a b (answering from.placed from.placed [] (keeps l) r []) nothing)
      (sym (none_begun config from.placed.state g r (plain g behind (begins.head, begins.opening.parts)))) read.transfer;
  kept = read.kept;
}
