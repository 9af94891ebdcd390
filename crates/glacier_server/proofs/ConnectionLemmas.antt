-- Exchanges one after another serve the last connection.
use Rattle.std.proofs.Common.{◌≡◌, ℕ, ◌+◌, List, [], Some, None, refl, sym, ap, subst, ◌∙◌}
use Rattle.std.proofs.lemmas.List.Elements.{All-nil}
use Rattle.glacier_disk.specs.Network.{Wait, wait_of}
use Rattle.glacier_disk.specs.Told.{Told}
use Rattle.glacier_machine.specs.declared.config.Config.{Config}
use Rattle.glacier_server.specs.declared.end.End.{End}
use Rattle.glacier_server.specs.declared.end.ServeFault.{ServeFault}
use Rattle.glacier_server.specs.declared.end.ServeFault.TheVariants.{Memory}
use Rattle.glacier_server.specs.Exchange.{Standing, standing, Exchanges, Idles, exchange_on}
use Rattle.glacier_server.specs.Breaking.{BreaksOff}
use Rattle.glacier_server.specs.Served.{ServedLast, IsPrompt, Stops}
use Rattle.glacier_server.specs.Breaking.{PartLast}
use Rattle.glacier_server.specs.Session.{Session, taking, HeldWaiting}
use Rattle.glacier_server.specs.Transfer.{Transfer, current}
use Rattle.glacier_server.specs.Does.{nothing}
use Rattle.glacier_server.proofs.RunLemmas.{SoFar, goes_on, stops, breaks, broken_by, served, part_none, nothing_none}
use Rattle.glacier_server.proofs.RunLemmas as run
use Rattle.glacier_server.proofs.SessionLemmas.{joined, held_then}
use Rattle.glacier_server.proofs.TransferLemmas.{stays, then, moved, breaks_off}
use Rattle.glacier_server.specs.Placed.{IsKept, Placed}

-- as many messages were answered on the last connection as it stands behind
pub record SoFarLast (config : Config) (old new : Told) (placed : Placed) (at : Standing) : Type 0 where
  pub session : Session
  pub starts : session.before ≡ placed
  pub transfer : Transfer old new session nothing
  pub so_far : SoFar config session at None
  pub prompt : IsPrompt config (wait_of (current old.connections)) session

module _ {config : Config} {a : Told} {placed : Placed} where
  -- before the first message
  pub at_start : (unread : List ℕ) → unread ≡ [] → SoFarLast config a a placed (standing 0 unread placed)
  at_start unread none = record {
    session = taking placed [] [];
    starts = refl;
    transfer = stays a placed;
    so_far = subst (λ (l : List ℕ). SoFar config (taking placed [] []) (standing 0 l placed) None) (sym none)
        (run.nothing config placed);
    prompt = All-nil _;
  }

  -- no memory for the first
  pub never_began : PartLast config a a placed Memory
  never_began = record {
    session = taking placed [] [];
    starts = refl;
    transfer = breaks_off (taking placed [] []) (stays a placed);
    part = part_none config placed;
    broken = nothing_none config placed;
    prompt = All-nil _;
  }

  module _ {b : Told} {from : Standing} (x : SoFarLast config a b placed from) where
    leads : (t : Session) → t.before ≡ from.placed → t.before ≡ x.session.after
    leads t starts = starts ∙ x.so_far.placed

    -- the store is kept still
    pub kept_now : IsKept a placed → IsKept b from.placed
    kept_now kept =
        subst (IsKept b) (sym x.so_far.placed) (x.transfer.does.kept (subst (IsKept a) (sym x.starts) kept))

    -- at each wait of an exchange, all was done that was due
    prompt_then : (t : Session) → t.before ≡ from.placed
        → HeldWaiting (wait_of (current b.connections)) t (λ till. Idles config (exchange_on from [] [] till))
        → IsPrompt config (wait_of (current a.connections)) (joined x.session t)
    prompt_then t starts idle =
        held_then (wait_of (current a.connections)) x.session t (Stops config) (λ till. Idles config
        (exchange_on from [] [] till)) x.prompt
        (subst (λ (w : Wait). HeldWaiting w t (λ till. Idles config (exchange_on from [] [] till)))
        (moved x.session x.transfer) idle)
        (λ u front holds. stops config x.session u from x.so_far (front.before ∙ starts) [] [] holds)

    -- one more
    pub one_more_last : {c : Told} (to : Standing) → from.count + 1 ≡ to.count → Exchanges config from to b c None
        → SoFarLast config a c placed to
    one_more_last {c = c} to counts y =
        let next = goes_on config x.session y.session from x.so_far y.starts to.unread
        (current c.connections).coming None y.exchange.0 in record {
          session = joined x.session y.session;
          starts = x.starts;
          transfer = then x.session y.session (leads y.session y.starts) x.transfer y.transfer;
          so_far = subst (λ (k : Standing). SoFar config (joined x.session y.session) k None)
              (ap (λ (n : ℕ). standing n y.exchange.0.rest y.session.after) counts
              ∙ ap (λ (l : List ℕ). standing to.count l y.session.after) y.exchange.1
              ∙ ap (λ (k : Placed). standing to.count to.unread k) y.leaves) next;
          prompt = prompt_then y.session y.starts y.idle;
        }

    -- the end
    pub served_last : {c : Told} {to : Standing} {e : End} → Exchanges config from to b c (Some e)
        → ServedLast config a c placed to.placed e
    served_last {c = c} {to = to} {e = e} y =
        let moves = then x.session y.session (leads y.session y.starts) x.transfer y.transfer in record {
          session = joined x.session y.session;
          starts = x.starts;
          leaves = y.leaves;
          transfer = moves;
          served = served config x.session y.session from x.so_far y.starts to.unread
              (current c.connections).coming e y.exchange moves.does.after_is;
          prompt = prompt_then y.session y.starts y.idle;
        }

    -- the server broke off
    pub part_last : {c : Told} {fault : ServeFault} → BreaksOff config from b c fault
        → PartLast config a c placed fault
    part_last {fault = fault} y =
        let moves = then x.session y.session (leads y.session y.starts) x.transfer y.transfer in record {
          session = joined x.session y.session;
          starts = x.starts;
          transfer = moves;
          part = breaks config x.session y.session from x.so_far y.starts [] [] y.part moves.does.after_is;
          broken = broken_by config x.session y.session from x.so_far y.starts [] [] y.part moves.does.after_is fault
              x.transfer.does.grew y.broken;
          prompt = prompt_then y.session y.starts y.idle;
        }
