-- A connection from its accept to its end.
use Rattle.std.proofs.Common.{◌≡◌, ℕ, ◌+◌, List, [], ◌∷◌, ◌++◌, Option, Some, None, refl, sym, ap, subst, ◌∙◌, arith, append-nil}
use Rattle.glacier_disk.specs.Calls.{HangUpCall}
use Rattle.glacier_disk.specs.Network.{Connection, Wait, accepted, sent_on, wait_of}
use Rattle.glacier_disk.specs.Told.{Told}
use Rattle.glacier_machine.specs.declared.config.Config.{Config}
use Rattle.glacier_server.specs.declared.end.End.{End}
use Rattle.glacier_server.specs.declared.end.End.TheVariants.{Closed, Cut, Refused, Bound, ReadFault, SendFault}
use Rattle.glacier_server.specs.declared.end.ServeFault.{ServeFault}
use Rattle.glacier_server.specs.declared.end.ServeFault.TheVariants.{Disk, Memory, JournalEnd, Accept}
use Rattle.glacier_server.specs.Acts.{Act, accept, bytes_of}
use Rattle.glacier_server.specs.Served.{ServedLast, IsPrompt, failing_of}
use Rattle.glacier_server.specs.Breaking.{PartLast, BrokenBy, LastBroken}
use Rattle.glacier_server.specs.Turns.{Turn}
use Rattle.glacier_server.specs.Serving.{IsSessionOf, begun, acts_of, Comes, Serves, BreaksLast, ServedTill, Breaks, JustAccepted}
use Rattle.glacier_server.specs.Session.{Session}
use Rattle.glacier_server.specs.Transfer.{Transfer, Fails, current, others}
use Rattle.glacier_server.specs.Does.{Does, Failing, nothing, receiving, sending, breaking}
use Rattle.glacier_server.proofs.DoesLemmas.{does_then, does_says, does_quiet, does_close, ends_well}
use Rattle.glacier_server.proofs.StepLemmas.{current-snoc, others-snoc}
use Rattle.glacier_server.specs.Placed.{Placed}

-- the open connection is the last
last_is : (cs before : List Connection) (last : Connection) → cs ≡ before ++ last ∷ []
    → cs ≡ others cs ++ current cs ∷ []
last_is cs before last is =
    is ∙ ap (λ (l : List Connection). l ++ last ∷ []) (sym (others-snoc before last) ∙ ap others (sym is))
    ∙ ap (λ (c : Connection). others cs ++ c ∷ []) (sym (current-snoc before last) ∙ ap current (sym is))

-- a connection's own end breaks nothing off
own_end : (end : End) → failing_of end ≡ breaking → ⊥
own_end Closed never = absurd (cc)
own_end (Cut n) never = absurd (cc)
own_end Refused never = absurd (cc)
own_end Bound never = absurd (cc)
own_end ReadFault never = absurd (cc)
own_end SendFault never = absurd (cc)

-- no accept breaks a connection off
no_accept : (config : Config) (placed : Placed) (last : Option (Turn × ℕ)) (acts : List Act)
    → LastBroken config placed last acts Accept → ⊥
no_accept config placed None acts x = let never : Accept ≡ Memory = x.0 in cc
no_accept config placed (Some last) acts x = x

-- from an accept to the end of its connection, which was closed then
module _ (old start done new : Told) {placed : Placed} (opens : JustAccepted old start placed)
    (last : (before : List Connection) × (d : Connection)
    × (done.connections ≡ before ++ d ∷ [])) (closes : HangUpCall done new) where
  c : Connection
  c = current done.connections

  fresh : current start.connections ≡ accepted opens.input
  fresh = ap current opens.next ∙ current-snoc old.connections (accepted opens.input)

  begins : wait_of (current start.connections) ≡ begun
  begins = ap wait_of fresh

  module _ (s : Session) (after : Placed) {failing : Failing} (starts : s.before ≡ placed) (leaves : s.after ≡ after)
      (x : Transfer start done s failing) where
    all_of : IsSessionOf c s
    unfolding c
    all_of = record {
      taken = x.took ∙ ap (λ (d : Connection). d.taken ++ s.taken) fresh;
      sent = x.sent_now ∙ ap (λ (d : Connection). d.sent ++ bytes_of s.acts) fresh;
      waits = x.waited ∙ ap (λ (d : Connection). d.waits ++ s.waits) fresh;
    }

    failed : Fails failing (accepted []) c
    unfolding c
    failed = fails_of failing opens.input c (subst (λ (d : Connection). Fails failing d
        (current done.connections)) fresh x.fails)
      where
        fails_of : (f : Failing) (input : List ℕ) (d : Connection) → Fails f (accepted input) d
            → Fails f (accepted []) d
        fails_of nothing input d is = is
        fails_of receiving input d is = is
        fails_of sending input d is = is
        fails_of breaking input d is = is

    comes : Comes old new (c ∷ []) (s ∷ [])
    unfolding c
    comes = record {
      behind =
          closes.connections ∙ last_is done.connections last.0 last.1 last.2
          ∙ ap (λ (l : List Connection). l ++ current done.connections ∷ []) (x.rest ∙ ap others opens.next
          ∙ others-snoc old.connections (accepted opens.input));
      read = closes.readings ∙ x.read ∙ ap (λ (l : List ℕ). l ++ s.readings) opens.readings
          ∙ ap (λ (l : List ℕ). old.readings ++ l) (sym (append-nil s.readings));
    }

    -- what was done till the connection was closed
    did : Does old done placed after (acts_of (s ∷ [])) failing
    did =
        subst (λ (k : Placed). Does old done placed k (acts_of (s ∷ [])) failing) leaves
        (does_says (ap (λ (l : List Act). accept ∷ l) (sym (append-nil s.acts))) (does_then opens.does (subst (λ
        (k : Placed). Does start done k s.after s.acts failing) starts x.does)))

  pub serves_one : {config : Config} {after : Placed} {end : End} → ServedLast config start done placed after end
      → old.listener.to_come ≡ 1 + new.listener.to_come → Serves config old new placed after 1
  unfolding c
  serves_one {config = config} {after = after} {end = end} x come = record {
    came = c ∷ [];
    sessions = x.session ∷ [];
    comes = comes x.session after x.starts x.leaves x.transfer;
    does = does_says (append-nil _) (does_then
        (ends_well (failing_of end) (own_end end) (did x.session after x.starts x.leaves x.transfer))
        (does_quiet after nothing closes.disk.rests closes.time (ap sent_on closes.connections)));
    number = refl;
    fewer = come;
    each = (
      x.starts,
      record {
        end = end;
        all = all_of x.session after x.starts x.leaves x.transfer;
        served = x.served;
        prompt = subst (λ (w : Wait). IsPrompt config w x.session) begins x.prompt;
        fails = failed x.session after x.starts x.leaves x.transfer;
        grew = (ends_well (failing_of end) (own_end end) x.transfer.does).grew;
      },
      sym x.leaves,
    );
  }

  pub breaks_one : {config : Config} (fault : ServeFault) → PartLast config start done placed fault
      → Breaks config old new placed 1 fault
  unfolding c
  breaks_one {config = config} fault x = record {
    came = c ∷ [];
    sessions = x.session ∷ [];
    after = x.session.after;
    comes = comes x.session x.session.after x.starts refl x.transfer;
    does = does_close (did x.session x.session.after x.starts refl x.transfer) closes.disk.rests closes.time
        (ap sent_on closes.connections);
    few = omega arith;
    till = by_fault fault (record {
      first = [];
      last = c;
      before = [];
      here = x.session;
      came_are = refl;
      sessions_are = refl;
      served = x.starts;
      all = all_of x.session x.session.after x.starts refl x.transfer;
      part = x.part;
      broken = x.broken;
      prompt = subst (λ (w : Wait). IsPrompt config w x.session) begins x.prompt;
    }) x.broken;
  }
    where
      by_fault : (f : ServeFault) → BreaksLast config (c ∷ []) (x.session ∷ []) placed f
          → BrokenBy config x.session x.part.1 f → ServedTill config f (c ∷ []) (x.session ∷ []) placed x.session.after
      by_fault Disk y is = y
      by_fault Memory y is = y
      by_fault (JournalEnd end) y is = y
      by_fault Accept y is = absurd (no_accept config is.placed x.part.1.last is.acts is.broken)
