-- The body of a message is taken behind its good head, for which was done what is due.
use Rattle.std.proofs.Common.{◌≡◌, ℕ, ◌+◌, ◌-◌, ◌<◌, List, [], ◌++◌, length, Some, sym, ap, subst, refl, ◌∙◌, arith, append-nil, length-append}
use Rattle.httparse.specs.declared.spans.HeaderSpan.{HeaderSpan}
use Rattle.httparse.specs.Grammar.{RequestHead}
use Rattle.glacier_disk.specs.Network.{Wait, wait_of}
use Rattle.glacier_disk.specs.Told.{Told}
use Rattle.glacier_http.specs.declared.head_spans.HeadSpans.{HeadSpans}
use Rattle.glacier_http.specs.declared.head_spans.HeadStep.TheVariants as step
use Rattle.glacier_http.specs.Step.{IsStep}
use Rattle.glacier_http.specs.Messages.{cut, end_of_rest}
use Rattle.glacier_machine.specs.declared.config.Config.{Config}
use Rattle.glacier_machine.specs.SignedRequests.{IsBodyKept}
use Rattle.glacier_server.specs.Acts.{Act, bytes_of}
use Rattle.glacier_server.specs.Begun.{HasBegun}
use Rattle.glacier_server.specs.declared.end.End.TheVariants.{Cut, ReadFault}
use Rattle.glacier_server.specs.Does.{Failing, nothing, receiving}
use Rattle.glacier_server.specs.Done.{HasBody}
use Rattle.glacier_server.specs.Exchange.{Standing, exchange_on, Exchanges, Idles, end_of_good}
use Rattle.glacier_server.specs.Placed.{Placed}
use Rattle.glacier_server.specs.Session.{answering, taking, HeldAt, HeldWaiting}
use Rattle.glacier_server.specs.Transfer.{Transfer, TakenAt, TakesOf, NoneComing, current}
use Rattle.glacier_server.proofs.AnswerLemmas.{h, begin, begins, behind, begins_head, reads, idles, cut_is, body, body_is, body_length, end_is}
use Rattle.glacier_server.proofs.ExtentLemmas.{Extends}
use Rattle.glacier_server.proofs.SessionLemmas.{joined, all_more, same_wait}
use Rattle.glacier_server.proofs.TransferLemmas.{then, says}

module _ (config : Config) (from : Standing) (headers : List HeaderSpan) (spans : HeadSpans) (used left : ℕ)
    (is : IsStep from.unread headers (step.Head spans))
    (extends : Extends from.unread spans used left) {a b : Told} {r : ℕ} {now : Placed}
    (begun : HasBegun config from now r a b) where
  abbrev head : RequestHead
  head = h config from headers spans used left r is extends

  abbrev first : List Act
  first = begin config from headers spans used left r is extends

  stood : Transfer a b (answering from.placed now [] first r []) nothing
  stood = begun.transfer head (behind config from headers spans used left r is extends)
      (begins_head config from headers spans used left r is extends)

  -- bytes of its body came
  module _ {c : Told} {missing : ℕ} {failing : Failing} (takes : TakesOf b c left missing failing) where
    took : Transfer a c (answering from.placed now takes.got first r takes.takes.waits) failing
    took =
        let one = answering from.placed now [] first r [] in
        let more = taking now takes.got takes.takes.waits in
        says (joined one more) first (append-nil first) (then one more refl stood (takes.takes.transfer now))

    -- at each wait some of it was missing
    idle_at : (w : Wait) → TakenAt (wait_of (current b.connections)) takes.got (λ l. length l < left) w
        → HeldAt (wait_of (current a.connections)) (answering from.placed now takes.got first r takes.takes.waits)
        (λ till. Idles config (exchange_on from [] [] till)) w
    idle_at w x =
        let one = stood in record {
          till = answering from.placed now x.till first r [];
          front = record {
            before = refl;
            taken = (x.later, x.cut);
            acts = ([], sym (append-nil first));
            readings = ([], refl);
          };
          at = x.at ∙ same_wait _ _ _ _ (omega (arith, ap length (one.took ∙ append-nil _)))
              (ap length one.sent_now ∙ length-append (current a.connections).sent (bytes_of first));
          holds = idles config from headers spans used left r is extends now one.does.after_is x.till
              (left - length x.till) (omega (arith, x.holds)) (omega (arith, x.holds)) [] [] [];
        }

    idle : HeldWaiting (wait_of (current a.connections))
        (answering from.placed now takes.got first r takes.takes.waits)
        (λ till. Idles config (exchange_on from [] [] till))
    idle = all_more _ _ takes.takes.waits idle_at takes.takes.each

  -- some are missing, as a receive failed
  pub body_failed : {c : Told} {missing : ℕ} → TakesOf b c left missing receiving → 0 < missing
      → (to : Standing) → now ≡ to.placed → Exchanges config from to a c (Some ReadFault)
  body_failed {c = c} {missing = missing} takes some to leads = record {
    session = answering from.placed now takes.got first r takes.takes.waits;
    starts = refl;
    leaves = leads;
    transfer = took takes;
    exchange = idles config from headers spans used left r is extends now stood.does.after_is takes.got missing
        takes.sum some to.unread (current c.connections).coming takes.takes.waits;
    idle = idle takes;
  }

  module _ {c : Told} {missing : ℕ} (takes : TakesOf b c left missing nothing) where
    -- some are missing, as the input ended
    pub body_cut : 0 < missing → NoneComing c → (count : ℕ) → count ≡ length from.unread → (to : Standing)
        → now ≡ to.placed → Exchanges config from to a c (Some (Cut (count + (left - missing))))
    body_cut some none count size to leads = record {
      session = answering from.placed now takes.got first r takes.takes.waits;
      starts = refl;
      leaves = leads;
      transfer = took takes;
      exchange = (
        idles config from headers spans used left r is extends now stood.does.after_is takes.got missing takes.sum some
            to.unread (current c.connections).coming takes.takes.waits,
        subst (λ (k : ℕ). cut (k + (left - missing)) ≡ end_of_rest (from.unread ++ takes.got)) (sym size)
            (cut_is config from headers spans used left r is extends takes.got missing takes.sum),
        none,
      );
      idle = idle takes;
    }

    -- none are missing
    pub has_body : missing ≡ 0 → (kept : List ℕ)
        → IsBodyKept kept (body config from headers spans used left r is extends takes.got)
        → HasBody config from spans used kept now r a c
    has_body none kept is_kept =
        let whole : length takes.got ≡ left = omega (arith, takes.sum, none) in record {
          head = head;
          behind = behind config from headers spans used left r is extends;
          reads = reads config from headers spans used left r is extends;
          body = body config from headers spans used left r is extends takes.got;
          got = takes.got;
          waits = takes.takes.waits;
          begins = begins config from headers spans used left r is extends takes.got whole;
          counted = body_is config from headers spans used left r is extends takes.got whole;
          size = body_length config from headers spans used left r is extends takes.got whole;
          is_kept = is_kept;
          end = end_is config from headers spans used left r is extends takes.got
              (end_of_good from.count spans.close) refl;
          transfer = took takes;
          idle = idle takes;
          stays = (takes.takes.transfer now).does.kept begun.kept;
        }
