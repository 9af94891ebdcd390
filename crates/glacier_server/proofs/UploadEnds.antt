-- The whole body of an upload was taken, and its events were kept, or the server broke off.
use Rattle.std.proofs.Common.{◌≡◌, ℕ, ◌<◌, Bool, true, List, [], ◌++◌, length, take, drop, None, inl, inr, ⊎_elim, sym, ap, subst, refl, ◌∙◌, arith, append-nil, append_assoc}
use Rattle.std.specs.Prelude.{if◌then◌else◌}
use Rattle.std.specs.Option.{is_some}
use Rattle.std.proofs.lemmas.Bool.{cases_lt}
use Rattle.std.proofs.lemmas.List.{map-append, take_all}
use Rattle.std.proofs.Math.Seq.{drop-append-add, take-append_seam}
use Rattle.httparse.specs.declared.spans.HeaderSpan.{HeaderSpan}
use Rattle.glacier_disk.specs.Told.{Told}
use Rattle.glacier_http.specs.Interim.{interim_of}
use Rattle.glacier_http.specs.Messages.{Message, good as Good, last_end}
use Rattle.glacier_http.specs.declared.head_spans.HeadSpans.{HeadSpans}
use Rattle.glacier_http.specs.declared.reply.Reply.{Reply}
use Rattle.glacier_machine.specs.Outcomes.{Outcome, one, outcome_events}
use Rattle.glacier_machine.specs.declared.config.Config.{Config}
use Rattle.glacier_replay.specs.Changes.{State, after_all}
use Rattle.glacier_store.specs.declared.store.Store.{Store}
use Rattle.glacier_vault.specs.Accounts.{AccountEvent}
use Rattle.glacier_server.specs.declared.admission.Admission.TheVariants.{Taken}
use Rattle.glacier_server.specs.declared.answered.Answered.{Answered}
use Rattle.glacier_server.specs.declared.end.ServeFault.{ServeFault}
use Rattle.glacier_server.specs.declared.end.ServeFault.TheVariants.{Disk, Memory, JournalEnd, Accept}
use Rattle.glacier_server.specs.Acts.{Act, bytes_of, events_in, keep, keeps, sends}
use Rattle.glacier_server.specs.Admissions.{AdmitsAt}
use Rattle.glacier_server.specs.Begun.{IsBulkAt}
use Rattle.glacier_server.specs.Breaking.{BreaksOff, BrokenFor}
use Rattle.glacier_server.specs.Does.{breaking, nothing}
use Rattle.glacier_server.specs.Done.{HasDone}
use Rattle.glacier_server.specs.Exchange.{Standing, end_of_good}
use Rattle.glacier_server.specs.Machine.{begun_events, further, happened, passed, reply}
use Rattle.glacier_server.specs.Out.{kept_acts, told}
use Rattle.glacier_server.specs.Placed.{Placed, placed_as}
use Rattle.glacier_server.specs.Rooms.{GrewBy}
use Rattle.glacier_server.specs.Session.{IsFront, answering}
use Rattle.glacier_server.specs.Texts.{answered_of}
use Rattle.glacier_server.specs.Transfer.{Transfer}
use Rattle.glacier_server.specs.Turns.{IsNext, Turn, begun as Begun, turn_acts, whole as Whole}
use Rattle.glacier_server.specs.Uploads.{BreaksUpload, BrokenUpload, Came, HasUploaded, Upload, events_with, reply_with, uploading}
use Rattle.glacier_server.proofs.ActLemmas.{bytes_of-append, bytes_of-keeps, bytes_of-kept, events_in-append, events_in-keeps, events_in-kept}
use Rattle.glacier_server.proofs.AnswerLemmas.{begins_more, behind, end_is, none_whole}
use Rattle.glacier_server.proofs.UploadExchanges.{Stands, first, head, idle, next, reads_head, size_is, stood, sum, took}

-- the answer that only is a reply
abbrev replied : Reply → Answered
replied answer = record { reply = answer; output = None }

module _ {config : Config} {from : Standing} {headers : List HeaderSpan} {spans : HeadSpans} {used left r : ℕ}
    {u : Upload} {state : State} {a b : Told} (y : Stands config from headers spans used left r u state a b)
    (bulk : IsBulkAt from.unread true)
    (admits : AdmitsAt config from r spans.content_length u.store (Taken u.rules u.moment u.ask)) where
  -- what is kept before its body is whole
  abbrev time : List AccountEvent
  time = begun_events config from.placed.state (head y) r

  time_is : time ≡ (one config from.placed.state.accounts (Good (head y) []) r).passed
  unfolding begun_events
  time_is = ap (λ (b : Bool). if b then (one config from.placed.state.accounts (Good (head y) []) r).passed else [])
      (bulk (head y) (behind config from headers spans used left r y.is y.extends) (reads_head y))

  -- the message with a body of its length
  module _ (body : List ℕ) (size : length body ≡ spans.content_length) where
    abbrev message : Message
    message = Good (head y) body

    outcome_is : one config from.placed.state.accounts message r ≡ record {
      reply = reply_with u body;
      output = None;
      passed = (one config from.placed.state.accounts (Good (head y) []) r).passed;
      done = events_with u body;
    }
    outcome_is =
        let admitted = admits (head y) (behind config from headers spans used left r y.is y.extends) (reads_head y) in
        admitted.outcome_is body size

    passed_is : passed config from.placed.state message r ≡ time
    unfolding passed
    passed_is = ap (λ (o : Outcome). o.passed) outcome_is ∙ sym time_is

    happened_is : happened config from.placed.state message r ≡ time ++ events_with u body
    unfolding happened
    happened_is = ap outcome_events outcome_is ∙ ap (λ (l : List AccountEvent). l ++ events_with u body) (sym time_is)

    further_is : further config from.placed.state message r ≡ events_with u body
    unfolding further
    further_is = ap (drop (length time)) happened_is
        ∙ ap (λ (n : ℕ). drop n (time ++ events_with u body)) (omega arith)
        ∙ drop-append-add time (events_with u body) 0

    -- first ones of its events are a first part of what is done
    part_is : (n : ℕ) (kept : List AccountEvent) → IsFront kept (events_with u body)
        → first y ++ keeps kept ≡ take (length (first y ++ keeps kept)) (told config n from.placed.state message r)
    part_is n kept (more, split) =
        let text = sends (reply config from.placed.state message r (is_some (last_end n message))) in
        sym (ap (take (length (first y ++ keeps kept))) (
        ap (λ (l : List AccountEvent). first y ++ (keeps l ++ text)) (further_is ∙ split)
        ∙ ap (λ (l : List Act). first y ++ (l ++ text)) (map-append keep kept more)
        ∙ ap (λ (l : List Act). first y ++ l) (append_assoc (keeps kept) (keeps more) text)
        ∙ sym (append_assoc (first y) (keeps kept) (keeps more ++ text)))
        ∙ take-append_seam (first y ++ keeps kept) (keeps more ++ text))

  -- its events were kept
  pub uploaded : {c : Told} {after : Store} (answer : Reply) (x : HasUploaded u b c answer after) (shown : Answered)
      → shown ≡ replied answer
      → HasDone config from used spans.close
      (placed_as after (after_all state (events_with u (u.here ++ x.came.got)))) shown r a c
  uploaded {c = c} {after = after} answer x shown same =
      let body = u.here ++ x.came.got in
      let size = size_is y x.came refl in
      let now = placed_as after (after_all state (events_with u body)) in
      let acts_are : first y ++ keeps (events_with u body) ≡ kept_acts config from.placed.state (message body size) r =
      ap (λ (l : List AccountEvent). first y ++ keeps l) (sym (further_is body size)) in
      let done = x.transfer state in record {
        message = message body size;
        got = x.came.got;
        waits = x.came.waits;
        begins = next y x.came refl;
        end = end_is config from headers spans used left r y.is y.extends x.came.got
            (end_of_good from.count spans.close) refl;
        answers = same ∙ ap replied x.reply_is ∙ sym (ap answered_of (outcome_is body size));
        transfer =
            subst (λ (l : List Act). Transfer a c (answering from.placed now x.came.got l r x.came.waits) nothing)
            acts_are (took y x.came now (events_with u body) done);
        idle = idle y x.came now (kept_acts config from.placed.state (message body size) r)
            (keeps (further config from.placed.state (message body size) r), refl);
        kept = done.does.kept y.begun.kept;
      }

  -- what was done, where these events were kept behind its head
  module _ (kept : List AccountEvent) where
    abbrev acts : List Act
    acts = first y ++ keeps kept

    silent : bytes_of acts ≡ interim_of (head y)
    silent = bytes_of-append (first y) (keeps kept) ∙ ap (λ (l : List ℕ). bytes_of (first y) ++ l) (bytes_of-keeps kept)
        ∙ append-nil _ ∙ bytes_of-kept time (interim_of (head y))

    events_are : events_in acts ≡ time ++ kept
    events_are = events_in-append (first y) (keeps kept)
        ∙ ap (λ (l : List AccountEvent). l ++ events_in (keeps kept)) (events_in-kept time (interim_of (head y)))
        ∙ ap (λ (l : List AccountEvent). time ++ l) (events_in-keeps kept)

    only_time : kept ≡ [] → events_in acts ≡ time
    only_time none = events_are ∙ ap (λ (l : List AccountEvent). time ++ l) none ∙ append-nil time

  -- the server broke off behind them
  module _ (c : Told) (piece : ℕ) {missing : ℕ} (came : Came u b missing) (kept : List AccountEvent) where
    breaks : (after : Placed) → Transfer b c (uploading came state after kept) breaking → (turn : Turn) (rest : List ℕ)
        → IsNext (from.unread ++ came.got) turn rest → (count : ℕ)
        → acts kept ≡ take count (turn_acts config from.count from.placed.state turn r) → (fault : ServeFault)
        → BrokenFor config from.placed turn r (acts kept) fault → BreaksOff config from a c fault
    breaks after x turn rest is_next count part fault why = record {
      session = answering from.placed after came.got (acts kept) r came.waits;
      starts = refl;
      transfer = took y came after kept x;
      part = record { turn = turn; reading = r; rest = rest; next = is_next; one = refl; count = count; part = part };
      broken = why;
      idle = idle y came after (acts kept) (keeps kept, refl);
    }

    -- where bytes are missing, none was kept
    none_kept : 0 < missing → (fault : ServeFault) → BrokenUpload piece c came kept fault → kept ≡ []
    none_kept some Disk why = ⊎_elim (λ early. early.0) (λ late. absurd (omega (arith, some, late.0))) why
    none_kept some Memory why = why
    none_kept some (JournalEnd n) why = absurd (omega (arith, some, why.0))
    none_kept some Accept why = absurd why

    at_head : 0 < missing → kept ≡ [] → (fault : ServeFault) → BrokenUpload piece c came kept fault
        → BrokenFor config from.placed (Begun (head y)) r (acts kept) fault
    at_head some none Disk why = inl ([], sym (append-nil _ ∙ silent kept))
    at_head some none Memory why =
        (([], sym (append-nil _ ∙ silent kept)), ([], sym (append-nil _ ∙ only_time kept none)))
    at_head some none (JournalEnd n) why = absurd (omega (arith, some, why.0))
    at_head some none Accept why = absurd why

    amid : 0 < missing → (after : Placed) → Transfer b c (uploading came state after kept) breaking
        → (fault : ServeFault) → BrokenUpload piece c came kept fault → BreaksOff config from a c fault
    amid some after x fault why =
        let none = none_kept some fault why in
        breaks after x (Begun (head y)) (behind config from headers spans used left r y.is y.extends ++ came.got) (
          begins_more config from headers spans used left r y.is y.extends came.got,
          none_whole config from headers spans used left r y.is y.extends came.got missing (sum y came) some,
        )
        (length (first y)) (ap (λ (l : List AccountEvent). first y ++ keeps l) none ∙ append-nil (first y)
        ∙ sym (take_all (length (first y)) (first y) (omega arith))) fault (at_head some none fault why)

    -- where it is whole, some first ones of its events may be
    module _ (none : missing ≡ 0) where
      abbrev whole_body : List ℕ
      whole_body = u.here ++ came.got

      size : length whole_body ≡ spans.content_length
      size = size_is y came none

      first_kept : (fault : ServeFault) → BrokenUpload piece c came kept fault → IsFront kept (events_with u whole_body)
      first_kept Disk why = ⊎_elim
          (λ early. (
            events_with u whole_body,
            ap (λ (l : List AccountEvent). l ++ events_with u whole_body) (sym early.0),
          ))
          (λ late. late.1) why
      first_kept Memory why =
          (events_with u whole_body, ap (λ (l : List AccountEvent). l ++ events_with u whole_body) (sym why))
      first_kept (JournalEnd n) why = why.1
      first_kept Accept why = absurd why

      grew : GrewBy from.placed.store.journal.length u.store.journal.length time
      grew = subst (λ (l : List AccountEvent). GrewBy from.placed.store.journal.length u.store.journal.length l)
          (events_in-kept time (interim_of (head y))) (stood y).does.grew

      at_whole : (fault : ServeFault) → BrokenUpload piece c came kept fault
          → BrokenFor config from.placed (Whole (message whole_body size)) r (acts kept) fault
      at_whole Disk why = inl ([], sym (append-nil _ ∙ silent kept))
      at_whole Memory why = (
        ([], sym (append-nil _ ∙ silent kept)),
        ([], passed_is whole_body size ∙ sym (append-nil _ ∙ only_time kept why)),
      )
      at_whole (JournalEnd n) why = (
        ([], sym (append-nil _ ∙ silent kept)),
        record {
          kept = time;
          left = events_with u whole_body;
          split = happened_is whole_body size;
          grew = subst (λ (k : ℕ). GrewBy from.placed.store.journal.length k time) (sym why.2) grew;
          full = why.3;
        },
      )
      at_whole Accept why = absurd why

      ended : (after : Placed) → Transfer b c (uploading came state after kept) breaking → (fault : ServeFault)
          → BrokenUpload piece c came kept fault → BreaksOff config from a c fault
      ended after x fault why =
          breaks after x (Whole (message whole_body size)) (drop used from.unread) (next y came none)
          (length (acts kept)) (part_is whole_body size from.count kept (first_kept fault why)) fault
          (at_whole fault why)

  pub broke : {c : Told} {piece : ℕ} (fault : ServeFault) → BreaksUpload u piece b c fault
      → BreaksOff config from a c fault
  broke {c = c} {piece = piece} fault x =
      let done = x.transfer state in
      elim (cases_lt 0 x.left) [
        | inl some ↦ amid c piece x.came x.kept some done.0 done.1 fault x.broken
        | inr none ↦ ended c piece x.came x.kept (omega (arith, none)) done.0 done.1 fault x.broken
      ]
