-- The calls for a bad head make an exchange.
use Rattle.std.proofs.Common.{◌≡◌, ℕ, Bool, true, List, [], take, Some, sym, ap, refl, ◌∙◌}
use Rattle.std.proofs.lemmas.List.{take-map}
use Rattle.std.proofs.lemmas.List.Elements.{All-nil}
use Rattle.glacier_disk.specs.Told.{Told}
use Rattle.glacier_http.specs.declared.bad_head.BadHead.{BadHead}
use Rattle.glacier_http.specs.declared.reply.Reply.{Reply}
use Rattle.glacier_http.specs.Messages.{bad as Bad, last_end}
use Rattle.glacier_machine.specs.declared.config.Config.{Config}
use Rattle.glacier_machine.specs.Outcomes.{one}
use Rattle.glacier_server.specs.Acts.{send, sends as acts_of}
use Rattle.glacier_server.specs.declared.end.End.{End}
use Rattle.glacier_server.specs.declared.end.End.TheVariants.{SendFault}
use Rattle.glacier_server.specs.declared.end.ServeFault.TheVariants.{Memory}
use Rattle.glacier_server.specs.Exchange.{Standing, BadStands, Exchanges, end_for_some}
use Rattle.glacier_server.specs.Breaking.{BreaksOff}
use Rattle.glacier_server.specs.Machine.{reply, after, happened}
use Rattle.glacier_server.specs.Texts.{text_of_reply}
use Rattle.glacier_server.specs.Served.{failing_of}
use Rattle.glacier_server.specs.Session.{answering, reading, acting}
use Rattle.glacier_server.specs.Transfer.{Transfer, SentAll, SentPart, current}
use Rattle.glacier_server.specs.Does.{nothing}
use Rattle.glacier_server.proofs.EndLemmas.{bad_answered, bad_part}
use Rattle.glacier_server.proofs.TransferLemmas.{acts_then, says, fails_as, breaks_off}
use Rattle.glacier_replay.specs.Changes.{State}
use Rattle.glacier_server.specs.Placed.{Placed}

-- the text of a bad head's reply, by what the machine answers: it has no output
text_is : (config : Config) (state : State) (cause : BadHead) (r : ℕ) (close : Bool) (answer : Reply)
    → answer ≡ (one config state.accounts (Bad cause) r).reply
    → text_of_reply answer r close ≡ reply config state (Bad cause) r close
unfolding reply
text_is config state cause r close answer is = ap (λ (a : Reply). text_of_reply a r close) is

-- a bad head, for which a reading was taken
still : (config : Config) (from : Standing) (cause : BadHead) (r : ℕ)
    → after config from.placed.state (Bad cause) r ≡ from.placed.state
unfolding after happened
still config from cause r = refl

module _ (config : Config) {r : ℕ} {cause : BadHead} {a b : Told} (read : (placed : Placed)
    → Transfer a b (reading placed r) nothing) (from : Standing) (count : ℕ)
    (stands : BadStands from count cause) where
  pub refused_unmade : BreaksOff config from a b Memory
  refused_unmade = record {
    session = reading from.placed r;
    starts = refl;
    transfer = breaks_off (reading from.placed r) (read from.placed);
    part = bad_part config from r cause stands.1 stands.2 [] [] 0;
    broken = ((_, refl), (_, refl));
    idle = All-nil _;
  }

  module _ (answer : Reply) (is : answer ≡ (one config from.placed.state.accounts (Bad cause) r).reply) where
    same : text_of_reply answer r true ≡ reply config from.placed.state (Bad cause) r true
    same = text_is config from.placed.state cause r true answer is

    pub refused_sent : {c : Told} (e : End) → failing_of e ≡ nothing
        → end_for_some (last_end count (Bad cause)) ≡ Some e → SentAll b c (text_of_reply answer r true)
        → (to : Standing) → from.placed ≡ to.placed → Exchanges config from to a c (Some e)
    refused_sent {c = c} e of_none end sent to leaves =
        let x = answering from.placed from.placed [] (acts_of (reply config from.placed.state
        (Bad cause) r true)) r [] in record {
          session = x;
          starts = refl;
          leaves = leaves;
          transfer =
              fails_as x nothing (failing_of e) (sym of_none)
              (acts_then (reading from.placed r) from.placed (acts_of (reply config from.placed.state (Bad cause) r true))
              (read from.placed)
              (says (acting from.placed from.placed (acts_of (text_of_reply answer r true))) (acts_of
              (reply config from.placed.state (Bad cause) r true)) (ap acts_of same) (sent from.placed)));
          exchange =
              bad_answered config from r cause stands.1 stands.2 to.unread (current c.connections).coming e
              (ap (λ (k : ℕ). end_for_some (last_end k (Bad cause))) stands.0 ∙ end) (still config from cause r);
          idle = All-nil _;
        }

    pub refused_unsent : {c : Told} → SentPart b c (text_of_reply answer r true) → (to : Standing)
        → from.placed ≡ to.placed → Exchanges config from to a c (Some SendFault)
    refused_unsent {c = c} (k, sent) to leaves =
        let part = take k (acts_of (reply config from.placed.state (Bad cause) r true)) in record {
          session = answering from.placed from.placed [] part r [];
          starts = refl;
          leaves = leaves;
          transfer =
              acts_then (reading from.placed r) from.placed part (read from.placed)
              (says (acting from.placed from.placed (acts_of (take k (text_of_reply answer r true)))) part
              (ap (λ (l : List ℕ). acts_of (take k l)) same
              ∙ sym (take-map send k (reply config from.placed.state (Bad cause) r true))) (sent from.placed));
          exchange = bad_part config from r cause stands.1 stands.2 to.unread (current c.connections).coming k;
          idle = All-nil _;
        }
