-- The answer to a message is sent, all of whose events are kept.
use Rattle.std.proofs.Common.{◌≡◌, ℕ, ◌+◌, ◌<◌, Bool, List, [], ◌++◌, length, take, drop, Some, None, inr, refl, sym, ap, subst, ◌∙◌, arith, append-nil, append_assoc}
use Rattle.std.specs.Prelude.{IsTrue, Option}
use Rattle.std.specs.Option.{is_some}
use Rattle.std.proofs.lemmas.List.{take-map}
use Rattle.std.proofs.Math.Seq.{take-append-add}
use Rattle.glacier_disk.specs.Network.{Wait, wait_of}
use Rattle.glacier_disk.specs.Told.{Told}
use Rattle.glacier_http.specs.Messages.{Message, last_end}
use Rattle.glacier_machine.specs.Outcomes.{one}
use Rattle.glacier_machine.specs.declared.config.Config.{Config}
use Rattle.glacier_machine.specs.declared.action.Output.{Output}
use Rattle.glacier_replay.specs.Changes.{State, after_all}
use Rattle.glacier_vault.specs.Accounts.{AccountEvent}
use Rattle.glacier_server.specs.declared.answered.Answered.{Answered}
use Rattle.glacier_server.specs.declared.end.End.{End}
use Rattle.glacier_server.specs.declared.end.End.TheVariants.{SendFault}
use Rattle.glacier_server.specs.declared.end.ServeFault.TheVariants.{Disk}
use Rattle.glacier_server.specs.Acts.{Act, send, sends, keeps, events_in}
use Rattle.glacier_server.specs.Breaking.{BreaksOff}
use Rattle.glacier_server.specs.Does.{nothing}
use Rattle.glacier_server.specs.Done.{HasDone}
use Rattle.glacier_server.specs.Exchange.{AnswersPart, Exchanges, Idles, IsExchange, Standing, end_of_good, exchange_on, failing_at}
use Rattle.glacier_server.specs.Machine.{after, first_events, further, happened, reply}
use Rattle.glacier_server.specs.Out.{first_acts, interim, kept_acts, told}
use Rattle.glacier_server.specs.Placed.{Placed}
use Rattle.glacier_server.specs.Session.{HeldAt, HeldWaiting, acting, answering}
use Rattle.glacier_server.specs.Texts.{answered_of, text_of_answer, text_of_outcome}
use Rattle.glacier_server.specs.Transfer.{SentAll, SentPart, Transfer, current}
use Rattle.glacier_server.specs.Turns.{whole}
use Rattle.glacier_server.proofs.ActLemmas.{events_in-append, events_in-keeps, events_in-kept, events_in-sends}
use Rattle.glacier_server.proofs.EndLemmas.{exchange_of, same_close}
use Rattle.glacier_server.proofs.EventLemmas.{first_and_further}
use Rattle.glacier_server.proofs.SessionLemmas.{held_on}
use Rattle.glacier_server.proofs.TransferLemmas.{acts_then, breaks_off, fails_as, says}

-- the events among what is done before a byte of the reply is sent
pub kept_events : (config : Config) (state : State) (m : Message) (r : ℕ)
    → events_in (kept_acts config state m r) ≡ happened config state m r
kept_events config state m r =
    events_in-append (first_acts config state m r) (keeps (further config state m r))
    ∙ ap (λ (l : List AccountEvent). l ++ events_in (keeps (further config state m r)))
    (events_in-kept (first_events config state m r) (interim m))
    ∙ ap (λ (l : List AccountEvent). first_events config state m r ++ l) (events_in-keeps (further config state m r))
    ∙ sym (first_and_further config state m r)

module _ (config : Config) (from : Standing) (used : ℕ) (close : Bool) (now : Placed) (answer : Answered) (r : ℕ)
    {a b : Told} (done : HasDone config from used close now answer r a b) (end : Option End)
    (end_is : end ≡ end_of_good from.count close) where
  abbrev m : Message
  m = done.message

  abbrev state : State
  state = from.placed.state

  abbrev kept : List Act
  kept = kept_acts config state m r

  abbrev text : List ℕ
  text = reply config state m r (is_some end)

  now_is : now.state ≡ after config state m r
  unfolding after
  now_is = done.transfer.does.after_is ∙ ap (after_all state) (kept_events config state m r)

  -- the text of the answer is that of the message's reply
  pub text_is : (flag : Bool) → flag ≡ is_some end → text_of_answer now.state answer r flag ≡ text
  unfolding reply after happened
  text_is flag is =
      ap (λ (b : Bool). text_of_answer now.state answer r b) is
      ∙ ap (λ (x : Answered). text_of_answer now.state x r (is_some end)) done.answers
      ∙ ap (λ (s : State). text_of_answer s (answered_of (one config state.accounts m r)) r (is_some end)) now_is

  told_is : kept ++ sends text ≡ told config from.count state m r
  told_is =
      append_assoc (first_acts config state m r) (keeps (further config state m r)) (sends text)
      ∙ ap (λ (b : Bool). first_acts config state m r ++ (keeps (further config state m r) ++ sends (reply config state m r b)))
      (ap is_some (end_is ∙ sym done.end) ∙ same_close (last_end from.count m))

  idle : (more : List Act) → HeldWaiting (wait_of (current a.connections))
      (answering from.placed now done.got (kept ++ more) r done.waits) (λ till. Idles config (exchange_on from [] [] till))
  idle more = held_on done.waits more done.idle

  -- a first part of it
  part_is : (k : ℕ) (rest coming : List ℕ) → AnswersPart config
      (exchange_on from rest coming (answering from.placed now done.got (kept ++ sends (take k text)) r done.waits))
  part_is k rest coming = record {
    turn = whole m;
    reading = r;
    rest = drop used from.unread;
    next = done.begins;
    one = refl;
    count = length kept + k;
    part = ap (λ (l : List Act). kept ++ l) (sym (take-map send k text)) ∙ sym (take-append-add kept (sends text) k)
        ∙ ap (λ (l : List Act). take (length kept + k) l) told_is;
  }

  module _ (sent : List ℕ) (same : sent ≡ text) where
    -- all of it was sent
    pub all_sent : {c : Told} → failing_at end ≡ nothing → SentAll b c sent → (to : Standing) → now ≡ to.placed
        → to.unread ≡ drop used from.unread → Exchanges config from to a c end
    all_sent {c = c} of_none went to leaves left_is =
        let x = answering from.placed now done.got (kept ++ sends text) r done.waits in record {
          session = x;
          starts = refl;
          leaves = leaves;
          transfer = fails_as x nothing (failing_at end) (sym of_none)
              (acts_then (answering from.placed now done.got kept r done.waits) now (sends text) done.transfer
              (says (acting now now (sends sent)) (sends text) (ap sends same) (went now)));
          exchange = subst (λ (l : List ℕ). IsExchange config (exchange_on from l (current c.connections).coming x) end)
              (sym left_is)
              (subst (λ (o : Option End). IsExchange config (exchange_on from (drop used from.unread) (current c.connections).coming x) o)
              (done.end ∙ sym end_is)
              (exchange_of config (exchange_on from (drop used from.unread) (current c.connections).coming x) (last_end from.count m)
              (record {
                message = m;
                reading = r;
                rest = drop used from.unread;
                begins = done.begins;
                end = refl;
                one = refl;
                all = told_is;
                after_it = now_is;
              }) (λ none. refl)));
          idle = idle (sends text);
        }

    -- a first part of it was sent
    went_part : {c : Told} (k : ℕ) → SentAll b c (take k sent)
        → Transfer a c (answering from.placed now done.got (kept ++ sends (take k text)) r done.waits) nothing
    went_part k went =
        acts_then (answering from.placed now done.got kept r done.waits) now (sends (take k text)) done.transfer
        (says (acting now now (sends (take k sent))) (sends (take k text)) (ap (λ (l : List ℕ). sends (take k l)) same) (went now))

    pub part_sent : {c : Told} → SentPart b c sent → (to : Standing) → now ≡ to.placed
        → Exchanges config from to a c (Some SendFault)
    part_sent {c = c} (k, went) to leaves = record {
      session = answering from.placed now done.got (kept ++ sends (take k text)) r done.waits;
      starts = refl;
      leaves = leaves;
      transfer = acts_then (answering from.placed now done.got kept r done.waits) now (sends (take k text)) done.transfer
          (says (acting now now (sends (take k sent))) (sends (take k text)) (ap (λ (l : List ℕ). sends (take k l)) same) (went now));
      exchange = part_is k to.unread (current c.connections).coming;
      idle = idle (sends (take k text));
    }

    -- the disk failed amid an output
    pub broken_amid : {c : Told} (given : Output) → answer.output ≡ Some given → (k : ℕ) → SentAll b c (take k sent)
        → BreaksOff config from a c Disk
    unfolding part_is
    broken_amid {c = c} given is k went =
        let output : (one config state.accounts m r).output ≡ Some given =
        sym (ap (λ (x : Answered). x.output) done.answers) ∙ is in record {
          session = answering from.placed now done.got (kept ++ sends (take k text)) r done.waits;
          starts = refl;
          transfer = breaks_off (answering from.placed now done.got (kept ++ sends (take k text)) r done.waits) (went_part k went);
          part = part_is k [] [];
          broken = inr (
            subst (λ (o : Option Output). IsTrue (is_some o)) (sym output) refl,
            events_in-append kept (sends (take k text))
                ∙ ap (λ (l : List AccountEvent). events_in kept ++ l) (events_in-sends (take k text))
                ∙ append-nil (events_in kept) ∙ kept_events config state m r,
          );
          idle = idle (sends (take k text));
        }
