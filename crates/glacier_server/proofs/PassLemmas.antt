-- A message that is decided at its head: time passes for its account before its body is taken.
use Rattle.std.proofs.Common.{◌≡◌, ℕ, ◌+◌, ◌-◌, true, List, [], ◌∷◌, ◌++◌, length, take, drop, inl, inr, Result, Ok, Err, sym, ap, subst, refl, ◌∙◌, arith, append-nil, append_assoc}
use Rattle.std.specs.Option.{is_some}
use Rattle.std.specs.Prelude.{min}
use Rattle.std.proofs.lemmas.Bool.{cases_lt}
use Rattle.std.proofs.lemmas.List.Elements.{All-nil}
use Rattle.std.proofs.Math.Seq.{take-append_seam}
use Rattle.httparse.specs.declared.spans.HeaderSpan.{HeaderSpan}
use Rattle.httparse.specs.Grammar.{RequestHead}
use Rattle.glacier_disk.specs.Told.{Told, Lawful, ByDisk}
use Rattle.glacier_http.specs.declared.head_spans.HeadSpans.{HeadSpans}
use Rattle.glacier_http.specs.declared.head_spans.HeadStep.TheVariants as step
use Rattle.glacier_http.specs.Head.{Reads}
use Rattle.glacier_http.specs.Interim.{interim_of}
use Rattle.glacier_http.specs.Messages.{good as Good, last_end}
use Rattle.glacier_http.specs.Step.{IsStep}
use Rattle.glacier_http.proofs.OpeningLemmas.{head_once}
use Rattle.glacier_machine.specs.Outcomes.{one}
use Rattle.glacier_machine.specs.declared.config.Config.{Config}
use Rattle.glacier_replay.specs.Changes.{after_all}
use Rattle.glacier_server.specs.Acts.{Act, sends, keeps, bytes_of}
use Rattle.glacier_server.specs.Admissions.{AdmitsAt, IsAdmission}
use Rattle.glacier_server.specs.Begun.{HasPassed, HasRead, IsBulkAt}
use Rattle.glacier_server.specs.Breaking.{BreaksOff, BrokenFor, HasBroken, NoReplyTo}
use Rattle.glacier_server.specs.Does.{nothing, breaking}
use Rattle.glacier_server.specs.Events.{KeepsEvents}
use Rattle.glacier_server.specs.Exchange.{Standing}
use Rattle.glacier_server.specs.Machine.{begun_events, further}
use Rattle.glacier_server.specs.Out.{further_acts}
use Rattle.glacier_server.specs.Placed.{IsKept, Placed, placed_as}
use Rattle.glacier_server.specs.Rooms.{HasNoRoom}
use Rattle.glacier_server.specs.Session.{answering, reading, acting}
use Rattle.glacier_server.specs.Transfer.{Transfer}
use Rattle.glacier_server.specs.Turns.{Turn, IsNext, begun, whole, turn_acts, turn_events, turn_interim, turn_passed}
use Rattle.glacier_server.specs.declared.admission.Admission.{Admission}
use Rattle.glacier_server.specs.declared.end.ServeFault.{ServeFault}
use Rattle.glacier_server.specs.declared.end.ServeFault.TheVariants.{Disk, Memory, JournalEnd, Accept}
use Rattle.glacier_server.proofs.ActLemmas.{bytes_of-keeps, events_in-keeps}
use Rattle.glacier_server.proofs.AnswerLemmas.{h, behind, begins, begins_more, body, none_whole}
use Rattle.glacier_server.proofs.EventLemmas.{begun_passed, bulk_begun, first_and_further}
use Rattle.glacier_server.proofs.ExtentLemmas.{Extends}
use Rattle.glacier_server.proofs.StepLemmas.{keeps_all, keeps_some, left_after}
use Rattle.glacier_server.proofs.TransferLemmas.{acts_then, says}
use Rattle.glacier_store.specs.Kept.{Kept}
use Rattle.glacier_store.specs.declared.store.Store.{Store}
use Rattle.glacier_vault.specs.Accounts.{AccountEvent, Accounts}

-- no room for the first of more events
no_room_more : (length : ℕ) (left more : List AccountEvent) → HasNoRoom length left → HasNoRoom length (left ++ more)
no_room_more length [] more full = absurd full
no_room_more length (event ∷ left) more full = full

module _ (config : Config) (from : Standing) {headers : List HeaderSpan} (spans : HeadSpans)
    (is : IsStep from.unread headers (step.Head spans)) (bulk : IsBulkAt from.unread true) (r : ℕ) where
  -- the events of the time that passes for it
  abbrev time : List AccountEvent
  time = begun_events config from.placed.state is.0 r

  reads : Reads from.unread is.0 is.1
  reads = (is.2.head, is.2.opening.parts)

  -- what stands there, whether its body is at hand or not: these events are its first
  record Next : Type 0 where
    turn : Turn
    rest : List ℕ
    next : IsNext (from.unread ++ []) turn rest
    more : List Act
    acts : turn_acts config from.count from.placed.state turn r ≡ keeps time ++ more
    passing : turn_passed config from.placed.state turn r ≡ time
    others : List AccountEvent
    events : turn_events config from.placed.state turn r ≡ time ++ others

  next : Next
  unfolding h reads
  next =
      let here : ℕ = min spans.content_length (length from.unread - spans.head_length) in
      let used : ℕ = spans.head_length + here in
      let left : ℕ = spans.content_length - here in
      let extends : Extends from.unread spans used left = record { used_is = refl; left_is = refl } in
      let whole_body = body config from headers spans used left r is extends [] in
      let message = Good is.0 whole_body in
      let close = is_some (last_end from.count message) in
      elim (cases_lt 0 left) [
        | inl some ↦ record {
          turn = begun is.0;
          rest = behind config from headers spans used left r is extends ++ [];
          next = (begins_more config from headers spans used left r is extends [], none_whole config from headers spans used left r is extends [] left (omega arith) some);
          more = sends (interim_of is.0);
          acts = refl;
          passing = refl;
          others = [];
          events = sym (append-nil time);
        }
        | inr none ↦ record {
          turn = whole message;
          rest = drop used from.unread;
          next = begins config from headers spans used left r is extends [] (omega (arith, none));
          more = sends (interim_of is.0) ++ further_acts config from.placed.state message r close;
          acts = append_assoc (keeps time) (sends (interim_of is.0)) (further_acts config from.placed.state message r close);
          passing = sym (begun_passed config from.placed.state is.0 whole_body r (bulk is.0 is.1 reads));
          others = further config from.placed.state message r;
          events = first_and_further config from.placed.state message r;
        }
      ]

  -- a store behind that time
  abbrev pub passed_as : Store → Placed
  passed_as store = placed_as store (after_all from.placed.state time)

  module _ {a b c : Told} (read : HasRead from.placed r a b) (law : Lawful c) (alone : ByDisk b c) {T : Type 0} where
    -- a call of the store keeps these events, or not
    abbrev PassesAtHead : Result (T × Store) ServeFault → Type 0
    PassesAtHead result = (g : RequestHead) (more : List ℕ) → Reads from.unread g more
        → KeepsEvents b c from.placed.store (one config from.placed.store.accounts (Good g []) r).passed [] result

    keeps_time : (result : Result (T × Store) ServeFault) → PassesAtHead result
        → KeepsEvents b c from.placed.store time [] result
    unfolding reads
    keeps_time result calls =
        subst (λ (l : List AccountEvent). KeepsEvents b c from.placed.store l [] result)
        (ap (λ (s : Accounts). (one config s (Good is.0 []) r).passed) read.kept.accounts
        ∙ sym (bulk_begun config from.placed.state is.0 r (bulk is.0 is.1 reads)))
        (calls is.0 is.1 reads)

    pub has_passed : (x : T × Store) → PassesAtHead (Ok x) → HasPassed config from (passed_as x.1) r a c
    has_passed x calls =
        let kept_time = keeps_time (Ok x) calls in
        let now = passed_as x.1 in
        let kept : IsKept c now = subst (λ (l : List AccountEvent). Kept c x.1 (after_all from.placed.state l)) (append-nil time)
        (kept_time.kept from.placed.state read.kept) in record {
          transfer = λ g more begins_there.
              let events = begun_events config from.placed.state g r in
              let same : time ++ [] ≡ events = append-nil time ∙ ap (λ (o : RequestHead). begun_events config from.placed.state o r)
              (head_once from.unread is.0 g is.1 more is.2 begins_there).0 in
              acts_then (reading from.placed r) now (keeps events) read.transfer
              (says (acting from.placed now (keeps (time ++ []))) (keeps events) (ap keeps same)
              (keeps_all law alone from.placed (time ++ []) (kept_time.any_moment from.placed.state) now
              (ap (after_all from.placed.state) (sym (append-nil time))) (λ was. kept.accounts) kept_time.grew (λ was. kept)));
          kept = kept;
        }

    -- why the server broke off then
    broken_by : (fault : ServeFault) → HasBroken fault b c → KeepsEvents {T = T} b c from.placed.store time [] (Err fault)
        → (n : Next) → BrokenFor config from.placed n.turn r (keeps time) fault
    broken_by fault is calls n = by_fault fault is calls
      where
        silent : NoReplyTo n.turn (keeps time)
        silent = (turn_interim n.turn, ap (λ (l : List ℕ). l ++ turn_interim n.turn) (sym (bytes_of-keeps time)))

        by_fault : (f : ServeFault) → HasBroken f b c → KeepsEvents {T = T} b c from.placed.store time [] (Err f)
            → BrokenFor config from.placed n.turn r (keeps time) f
        by_fault Disk shows calls = inl silent
        by_fault Memory shows calls = (silent, ([], n.passing ∙ sym (append-nil _ ∙ events_in-keeps time)))
        by_fault (JournalEnd end) shows calls = (
          silent,
          (let full = calls.end end refl in record {
            kept = full.kept;
            left = full.left ++ n.others;
            split = n.events ∙ ap (λ (l : List AccountEvent). l ++ n.others) (sym (append-nil time) ∙ full.split)
                ∙ append_assoc full.kept full.left n.others;
            grew = full.grew;
            full = no_room_more end full.left n.others full.full;
          }),
        )
        by_fault Accept shows calls = absurd shows

    pub pass_broken : (fault : ServeFault) → HasBroken fault b c → PassesAtHead (Err fault)
        → BreaksOff config from a c fault
    pass_broken fault is calls =
        let kept_time = keeps_time (Err fault) calls in
        let leaves = kept_time.any_moment from.placed.state in
        let after = left_after law alone from.placed (time ++ []) leaves in
        let n = next in record {
          session = answering from.placed after [] (keeps time) r [];
          starts = refl;
          transfer =
              acts_then (reading from.placed r) after (keeps time) read.transfer
              (says (acting from.placed after (keeps (time ++ []))) (keeps time) (ap keeps (append-nil time))
              (keeps_some law alone from.placed (time ++ []) leaves));
          part = record {
            turn = n.turn;
            reading = r;
            rest = n.rest;
            next = n.next;
            one = refl;
            count = length (keeps time);
            part = sym (ap (take (length (keeps time))) n.acts ∙ take-append_seam (keeps time) n.more);
          };
          broken = broken_by fault is kept_time n;
          idle = All-nil _;
        }

-- what was found out by the store's accounts, by the state's
module _ (config : Config) (from : Standing) (r size : ℕ) (store : Store) (admission : Admission) where
  pub admits_at : from.placed.store.accounts ≡ from.placed.state.accounts
      → ((g : RequestHead) (more : List ℕ) → Reads from.unread g more
      → IsAdmission (λ body. one config from.placed.store.accounts (Good g body) r) size store admission)
      → (found : Admission) → admission ≡ found → AdmitsAt config from r size store found
  admits_at same admits found is g more there =
      subst (λ (x : Admission). IsAdmission (λ body. one config from.placed.state.accounts (Good g body) r) size store x) is
      (subst (λ (s : Accounts). IsAdmission (λ body. one config s (Good g body) r) size store admission) same
      (admits g more there))

-- a reading was taken
pub has_read : {placed : Placed} {r : ℕ} {a b : Told} → IsKept a placed → Transfer a b (reading placed r) nothing
    → HasRead placed r a b
has_read kept read = record { transfer = read; kept = read.does.kept kept }
