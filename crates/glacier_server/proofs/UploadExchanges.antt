-- The body of an upload was taken behind its head: then its events were kept, or some of it is missing.
use Rattle.std.proofs.Common.{◌≡◌, ℕ, ◌+◌, ◌-◌, ◌<◌, ◌≤◌, List, [], ◌++◌, length, take, drop, Some, sym, ap, subst, refl, ◌∙◌, arith, append-nil, length-append, length-drop}
use Rattle.std.specs.Prelude.{min}
use Rattle.std.proofs.lemmas.List.{length-take, length-take-le}
use Rattle.httparse.specs.declared.spans.HeaderSpan.{HeaderSpan}
use Rattle.httparse.specs.Grammar.{RequestHead}
use Rattle.glacier_disk.specs.Network.{Wait, wait_of}
use Rattle.glacier_disk.specs.Told.{Told}
use Rattle.glacier_http.specs.Head.{Reads}
use Rattle.glacier_http.specs.Messages.{Begins, cut, end_of_rest, good as Good}
use Rattle.glacier_http.specs.Step.{IsStep}
use Rattle.glacier_http.specs.declared.head_spans.HeadSpans.{HeadSpans}
use Rattle.glacier_http.specs.declared.head_spans.HeadStep.TheVariants as step
use Rattle.glacier_machine.specs.declared.config.Config.{Config}
use Rattle.glacier_replay.specs.Changes.{State}
use Rattle.glacier_store.specs.declared.store.Store.{Store}
use Rattle.glacier_vault.specs.Accounts.{AccountEvent}
use Rattle.glacier_server.specs.declared.end.End.TheVariants.{Cut, ReadFault}
use Rattle.glacier_server.specs.Acts.{Act, bytes_of, keeps}
use Rattle.glacier_server.specs.Begun.{HasBegun}
use Rattle.glacier_server.specs.Does.{Failing, nothing, receiving}
use Rattle.glacier_server.specs.Exchange.{Exchanges, Idles, Standing, exchange_on}
use Rattle.glacier_server.specs.Placed.{Placed, placed_as}
use Rattle.glacier_server.specs.Session.{HeldAt, HeldWaiting, IsFront, answering}
use Rattle.glacier_server.specs.Transfer.{NoneComing, TakenAt, Transfer, current}
use Rattle.glacier_server.specs.Uploads.{Came, CutsUpload, Upload, uploading}
use Rattle.glacier_server.proofs.AnswerLemmas.{begin, begins, begins_head, behind, body, body_by, body_length, cut_is, h, idles, reads}
use Rattle.glacier_server.proofs.ExtentLemmas.{Extends, extends_by}
use Rattle.glacier_server.proofs.SessionLemmas.{all_more, same_wait}
use Rattle.glacier_server.proofs.TransferLemmas.{says, then}

-- a good head stands there, for which was done what is done before its body is whole, and this upload is its message
pub record Stands (config : Config) (from : Standing) (headers : List HeaderSpan) (spans : HeadSpans) (used left r : ℕ)
    (u : Upload) (state : State) (a b : Told) : Type 0 where
  pub is : IsStep from.unread headers (step.Head spans)
  pub extends : Extends from.unread spans used left
  pub all : u.missing ≡ left
  pub front : u.here ≡ take (used - spans.head_length) (drop spans.head_length from.unread)
  pub begun : HasBegun config from (placed_as u.store state) r a b

pub stands : (config : Config) (from : Standing) (headers : List HeaderSpan) (spans : HeadSpans) (used left r count : ℕ)
    → IsStep from.unread headers (step.Head spans) → count ≡ length from.unread
    → used ≡ spans.head_length + min spans.content_length (count - spans.head_length)
    → left ≡ spans.content_length - min spans.content_length (count - spans.head_length) → (unread : List ℕ)
    → unread ≡ from.unread → (u : Upload) → u.missing ≡ left
    → u.here ≡ take (used - spans.head_length) (drop spans.head_length unread) → (state : State) (a b : Told)
    → HasBegun config from (placed_as u.store state) r a b → Stands config from headers spans used left r u state a b
stands config from headers spans used left r count is size used_is left_is unread same u all front state a b begun =
    record {
      is = is;
      extends = extends_by from.unread spans used left count size used_is left_is;
      all = all;
      front = front ∙ ap (λ (l : List ℕ). take (used - spans.head_length) (drop spans.head_length l)) same;
      begun = begun;
    }

-- the bytes of its body that were there, and those that are missing, are as many as its head says
pub sized : (spans : HeadSpans) (unread bytes : List ℕ) (used left count size : ℕ) → spans.head_length ≤ count
    → count ≡ length unread → bytes ≡ unread
    → used ≡ spans.head_length + min spans.content_length (count - spans.head_length)
    → left ≡ spans.content_length - min spans.content_length (count - spans.head_length) → size ≡ spans.content_length
    → size ≡ length (take (used - spans.head_length) (drop spans.head_length bytes)) + left
sized spans unread bytes used left count size fits same bytes_are used_is left_is size_is =
    omega (
      arith,
      fits,
      same,
      used_is,
      left_is,
      size_is,
      ap length bytes_are,
      length-drop spans.head_length bytes,
      length-take-le (used - spans.head_length) (drop spans.head_length bytes)
          (omega (arith, fits, same, used_is, ap length bytes_are, length-drop spans.head_length bytes)),
    )

-- and those that were there are no more than are unread
pub few_here : (at n most : ℕ) (bytes : List ℕ) → length bytes ≤ most → length (take n (drop at bytes)) ≤ most
few_here at n most bytes few = omega (arith, few, length-take n (drop at bytes), length-drop at bytes)

module _ {config : Config} {from : Standing} {headers : List HeaderSpan} {spans : HeadSpans} {used left r : ℕ}
    {u : Upload} {state : State} {a b : Told} (y : Stands config from headers spans used left r u state a b) where
  abbrev pub head : RequestHead
  head = h config from headers spans used left r y.is y.extends

  pub reads_head : Reads from.unread head (behind config from headers spans used left r y.is y.extends)
  reads_head = reads config from headers spans used left r y.is y.extends

  abbrev pub first : List Act
  first = begin config from headers spans used left r y.is y.extends

  pub stood : Transfer a b (answering from.placed (placed_as u.store state) [] first r []) nothing
  stood = y.begun.transfer head (behind config from headers spans used left r y.is y.extends)
      (begins_head config from headers spans used left r y.is y.extends)

  -- bytes of its body came
  module _ {missing : ℕ} (came : Came u b missing) where
    pub sum : missing + length came.got ≡ left
    sum = came.sum ∙ y.all

    -- and then events were kept
    pub took : {c : Told} {failing : Failing} (after : Placed) (events : List AccountEvent)
        → Transfer b c (uploading came state after events) failing
        → Transfer a c (answering from.placed after came.got (first ++ keeps events) r came.waits) failing
    took after events x =
        then (answering from.placed (placed_as u.store state) [] first r []) (uploading came state after events) refl
        stood x

    -- at each wait some of it was missing
    idle_at : (after : Placed) (acts : List Act) → IsFront first acts → (w : Wait)
        → TakenAt (wait_of (current b.connections)) came.got (λ l. length l < u.missing) w
        → HeldAt (wait_of (current a.connections)) (answering from.placed after came.got acts r came.waits)
        (λ till. Idles config (exchange_on from [] [] till)) w
    idle_at after acts is_front w x =
        let one = stood in record {
          till = answering from.placed (placed_as u.store state) x.till first r [];
          front = record { before = refl; taken = (x.later, x.cut); acts = is_front; readings = ([], refl) };
          at = x.at ∙ same_wait _ _ _ _ (omega (arith, ap length (one.took ∙ append-nil _)))
              (ap length one.sent_now ∙ length-append (current a.connections).sent (bytes_of first));
          holds = idles config from headers spans used left r y.is y.extends (placed_as u.store state)
              one.does.after_is x.till (left - length x.till) (omega (arith, x.holds, y.all))
              (omega (arith, x.holds, y.all)) [] [] [];
        }

    pub idle : (after : Placed) (acts : List Act) → IsFront first acts
        → HeldWaiting (wait_of (current a.connections)) (answering from.placed after came.got acts r came.waits)
        (λ till. Idles config (exchange_on from [] [] till))
    idle after acts is_front = all_more _ _ came.waits (idle_at after acts is_front) came.each

    -- all of it came
    body_is : body config from headers spans used left r y.is y.extends came.got ≡ u.here ++ came.got
    body_is = body_by config from headers spans used left r y.is y.extends came.got
        ∙ ap (λ (l : List ℕ). l ++ came.got) (sym y.front)

    pub next : missing ≡ 0 → Begins (from.unread ++ came.got) (Good head (u.here ++ came.got)) (drop used from.unread)
    next none = subst (λ (l : List ℕ). Begins (from.unread ++ came.got) (Good head l) (drop used from.unread)) body_is
        (begins config from headers spans used left r y.is y.extends came.got (omega (arith, sum, none)))

    pub size_is : missing ≡ 0 → length (u.here ++ came.got) ≡ spans.content_length
    size_is none = sym (body_length config from headers spans used left r y.is y.extends came.got
        (omega (arith, sum, none)) ∙ ap length body_is)

  -- a part of it came, and nothing was kept of it
  module _ {c : Told} {failing : Failing} {piece : ℕ} {after : Store} (x : CutsUpload u piece b c after failing)
      (to : Standing) (leads : placed_as after state ≡ to.placed) where
    moved : Transfer a c (answering from.placed (placed_as after state) x.came.got first r x.came.waits) failing
    moved = says (answering from.placed (placed_as after state) x.came.got (first ++ []) r x.came.waits) first
        (append-nil first) (took x.came (placed_as after state) [] (x.transfer state))

    idles_so : Idles config (exchange_on from to.unread (current c.connections).coming
        (answering from.placed (placed_as after state) x.came.got first r x.came.waits))
    idles_so = idles config from headers spans used left r y.is y.extends (placed_as after state) stood.does.after_is
        x.came.got x.left (sum x.came) x.some to.unread (current c.connections).coming x.came.waits

    waiting : HeldWaiting (wait_of (current a.connections))
        (answering from.placed (placed_as after state) x.came.got first r x.came.waits)
        (λ till. Idles config (exchange_on from [] [] till))
    waiting = idle x.came (placed_as after state) first ([], sym (append-nil first))

  -- as the input ended
  pub cut_off : {c : Told} {piece : ℕ} {after : Store} (x : CutsUpload u piece b c after nothing) (missing : ℕ)
      → x.left ≡ missing → NoneComing c → (count : ℕ) → count ≡ length from.unread → (to : Standing)
      → placed_as after state ≡ to.placed → Exchanges config from to a c (Some (Cut (count + (left - missing))))
  cut_off {after = after} x missing same none count size to leads = record {
    session = answering from.placed (placed_as after state) x.came.got first r x.came.waits;
    starts = refl;
    leaves = leads;
    transfer = moved x to leads;
    exchange = (
      idles_so x to leads,
      subst (λ (k : ℕ). cut (k + (left - missing)) ≡ end_of_rest (from.unread ++ x.came.got)) (sym size)
          (cut_is config from headers spans used left r y.is y.extends x.came.got missing
          (omega (arith, sum x.came, same))),
      none,
    );
    idle = waiting x to leads;
  }

  -- as a receive failed
  pub receive_failed : {c : Told} {piece : ℕ} {after : Store} → CutsUpload u piece b c after receiving → (to : Standing)
      → placed_as after state ≡ to.placed → Exchanges config from to a c (Some ReadFault)
  receive_failed {after = after} x to leads = record {
    session = answering from.placed (placed_as after state) x.came.got first r x.came.waits;
    starts = refl;
    leaves = leads;
    transfer = moved x to leads;
    exchange = idles_so x to leads;
    idle = waiting x to leads;
  }
