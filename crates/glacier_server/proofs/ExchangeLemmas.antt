-- What was taken for a head, and then an exchange.
use Rattle.std.proofs.Common.{◌≡◌, ℕ, List, [], ◌∷◌, ◌++◌, take, Some, inr, refl, sym, ap, subst, ◌∙◌, arith, append_assoc}
use Rattle.std.specs.Prelude.{Option}
use Rattle.glacier_disk.specs.Network.{Wait, wait_of}
use Rattle.glacier_disk.specs.Told.{Told}
use Rattle.glacier_http.specs.Opening.{HasNoOpening}
use Rattle.glacier_http.specs.Messages.{end_of_rest}
use Rattle.glacier_http.proofs.BeginLemmas.{none_waits}
use Rattle.glacier_machine.specs.declared.config.Config.{Config}
use Rattle.glacier_server.specs.declared.end.End.{End}
use Rattle.glacier_server.specs.declared.end.End.TheVariants.{ReadFault}
use Rattle.glacier_server.specs.declared.end.ServeFault.{ServeFault}
use Rattle.glacier_server.specs.Exchange.{Standing, standing, Exchange, exchange_on, Idles, IsExchange, Exchanges, end_for}
use Rattle.glacier_server.specs.Breaking.{BreaksOff}
use Rattle.glacier_server.specs.Turns.{IsNext, turn_acts}
use Rattle.glacier_server.specs.Served.{failing_of}
use Rattle.glacier_server.specs.Session.{Session, taking, HeldAt, HeldWaiting}
use Rattle.glacier_server.specs.Transfer.{TakenAt, TakesBehind, NoneComing, current}
use Rattle.glacier_server.specs.Does.{Failing, nothing, receiving}
use Rattle.glacier_server.proofs.SessionLemmas.{joined, all_more, same_wait, held_then}
use Rattle.glacier_server.proofs.TransferLemmas.{then, moved, fails_as}
use Rattle.glacier_server.specs.Placed.{IsKept, Placed}

-- no head is there yet
need : (config : Config) (from : Standing) (left coming got : List ℕ) (waits : List Wait) → HasNoOpening (from.unread ++ got)
    → Idles config (exchange_on from left coming (taking from.placed got waits))
need config from left coming got waits none =
    record { none = none_waits (from.unread ++ got) none; same = refl; tells = refl; read = λ _ h more x. none _ _ x.opening }

-- the input ended
at_the_end : (config : Config) (x : Exchange) (input : List ℕ) → x.input ≡ input → Idles config x → x.coming ≡ []
    → IsExchange config x (Some (end_for (end_of_rest input)))
at_the_end config x [] is idle none = inr (idle, sym (ap end_of_rest is), none)
at_the_end config x (b ∷ input) is idle none = (idle, sym (ap end_of_rest is), none)

module _ (config : Config) (n : ℕ) {a b : Told} {unread now : List ℕ} (placed : Placed) {failing : Failing}
    (found : TakesBehind a b unread now HasNoOpening failing) where
  -- at each wait no head was there
  idle : HeldWaiting (wait_of (current a.connections)) (taking placed found.got found.takes.waits) (λ till. Idles config
      (exchange_on (standing n unread placed) [] [] till))
  idle = all_more _ _ found.takes.waits at found.takes.each
    where
      at : (w : Wait) → TakenAt (wait_of (current a.connections)) found.got (λ l. HasNoOpening (unread ++ l)) w
          → HeldAt (wait_of (current a.connections)) (taking placed found.got found.takes.waits) (λ till. Idles config
          (exchange_on (standing n unread placed) [] [] till)) w
      at w x = record {
        till = taking placed x.till [];
        front = record { before = refl; taken = (x.later, x.cut); acts = ([], refl); readings = ([], refl) };
        at = x.at ∙ same_wait _ _ _ _ refl (omega arith);
        holds = need config (standing n unread placed) [] [] x.till [] x.holds;
      }

-- the input ended, or a receive failed, behind the bytes that were taken for a head
module _ {config : Config} {n : ℕ} {a b : Told} {unread now : List ℕ} {placed : Placed} where
  pub ends_behind : (e : End) → failing_of e ≡ nothing → TakesBehind a b unread now HasNoOpening nothing
      → e ≡ end_for (end_of_rest now) → HasNoOpening now → NoneComing b → (to : Standing) → placed ≡ to.placed
      → Exchanges config (standing n unread placed) to a b (Some e)
  ends_behind e of_none found is none ended to same =
      let s = taking placed found.got found.takes.waits in
      let x = exchange_on (standing n unread placed) to.unread (current b.connections).coming s in record {
        session = s;
        starts = refl;
        leaves = same;
        transfer = fails_as s nothing (failing_of e) (sym of_none) (found.takes.transfer placed);
        exchange = subst (λ (f : End). IsExchange config x (Some f)) (sym is)
            (at_the_end config x now (sym found.behind) (need config (standing n unread placed) to.unread
            (current b.connections).coming found.got found.takes.waits
            (subst HasNoOpening found.behind none)) ended);
        idle = idle config n placed found;
      }

  pub fails_behind : TakesBehind a b unread now HasNoOpening receiving → HasNoOpening now → (to : Standing)
      → placed ≡ to.placed → Exchanges config (standing n unread placed) to a b (Some ReadFault)
  fails_behind found none to same = record {
    session = taking placed found.got found.takes.waits;
    starts = refl;
    leaves = same;
    transfer = found.takes.transfer placed;
    exchange = need config (standing n unread placed) to.unread (current b.connections).coming found.got found.takes.waits
        (subst HasNoOpening found.behind none);
    idle = idle config n placed found;
  }

-- the store is kept still
pub kept_behind : {a b : Told} {unread now : List ℕ} {placed : Placed} → TakesBehind a b unread now HasNoOpening nothing
    → IsKept a placed → IsKept b placed
kept_behind {placed = placed} found kept = (found.takes.transfer placed).does.kept kept

-- an exchange of what is unread then
module _ {n : ℕ} {a b : Told} {unread now : List ℕ} {placed : Placed}
    (found : TakesBehind a b unread now HasNoOpening nothing) where
  -- it is one of what was unread before
  regroup : (left coming : List ℕ) (s : Session) → s.before ≡ placed
      → exchange_on (standing n now placed) left coming s ≡ exchange_on (standing n unread placed) left coming (joined
      (taking placed found.got found.takes.waits) s)
  regroup left coming s starts =
      ap (λ (l : List ℕ). record (exchange_on (standing n now placed) left coming s) { input = l }) (ap (λ
      (l : List ℕ). l ++ s.taken) found.behind ∙ append_assoc unread found.got s.taken)
      ∙ ap (λ (k : Placed). record (exchange_on (standing n unread placed) left coming (joined
      (taking placed found.got found.takes.waits) s)) { before = k.state }) starts

  idles_behind : (config : Config) (s : Session) → s.before ≡ placed
      → HeldWaiting (wait_of (current b.connections)) s (λ till. Idles config (exchange_on
      (standing n now placed) [] [] till))
      → HeldWaiting (wait_of (current a.connections)) (joined (taking placed found.got found.takes.waits) s)
      (λ till. Idles config (exchange_on (standing n unread placed) [] [] till))
  idles_behind config s starts held =
      let one = taking placed found.got found.takes.waits in
      held_then (wait_of (current a.connections)) one s (λ till. Idles config (exchange_on
      (standing n unread placed) [] [] till)) (λ till. Idles config (exchange_on (standing n now placed) [] [] till))
      (idle config n placed found)
      (subst (λ (w : Wait). HeldWaiting w s (λ till. Idles config (exchange_on (standing n now placed) [] [] till)))
      (moved one (found.takes.transfer placed)) held)
      (λ u front holds. subst (Idles config) (regroup [] [] u (front.before ∙ starts)) holds)

  pub exchanges_behind : {config : Config} {c : Told} {to : Standing} {end : Option End}
      → Exchanges config (standing n now placed) to b c end → Exchanges config (standing n unread placed) to a c end
  exchanges_behind {config = config} {c = c} {to = to} {end = end} x = record {
    session = joined (taking placed found.got found.takes.waits) x.session;
    starts = refl;
    leaves = x.leaves;
    transfer = then (taking placed found.got found.takes.waits) x.session x.starts
        (found.takes.transfer placed) x.transfer;
    exchange = subst (λ (y : Exchange). IsExchange config y end) (regroup to.unread
        (current c.connections).coming x.session x.starts) x.exchange;
    idle = idles_behind config x.session x.starts x.idle;
  }

  pub breaks_behind : {config : Config} {c : Told} {fault : ServeFault}
      → BreaksOff config (standing n now placed) b c fault → BreaksOff config (standing n unread placed) a c fault
  breaks_behind {config = config} x = record {
    session = joined (taking placed found.got found.takes.waits) x.session;
    starts = refl;
    transfer = then (taking placed found.got found.takes.waits) x.session x.starts
        (found.takes.transfer placed) x.transfer;
    part = record {
      turn = x.part.turn;
      reading = x.part.reading;
      rest = x.part.rest;
      next = subst (λ (y : Exchange). IsNext y.input x.part.turn x.part.rest) (regroup [] [] x.session x.starts)
          x.part.next;
      one = x.part.one;
      count = x.part.count;
      part = x.part.part ∙ ap (λ (y : Exchange). take x.part.count (turn_acts config y.count y.before x.part.turn
          x.part.reading)) (regroup [] [] x.session x.starts);
    };
    broken = x.broken;
    idle = idles_behind config x.session x.starts x.idle;
  }
