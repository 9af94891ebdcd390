-- Connections that were served, one after another.
use Rattle.std.proofs.Common.{◌≡◌, ℕ, ◌+◌, ◌≤◌, List, [], ◌∷◌, ◌++◌, refl, sym, ap, subst, ◌∙◌, arith, length-append, append-nil, append_assoc}
use Rattle.std.specs.Prelude.{Bool, Result}
use Rattle.glacier_disk.specs.Calls.{AcceptCall}
use Rattle.glacier_disk.specs.Network.{Connection, accepted, sent_on}
use Rattle.glacier_disk.specs.Told.{Told}
use Rattle.glacier_disk.proofs.Connections.{sent_next}
use Rattle.glacier_machine.specs.declared.config.Config.{Config}
use Rattle.glacier_server.specs.declared.end.ServeFault.{ServeFault}
use Rattle.glacier_server.specs.declared.end.ServeFault.TheVariants.{Disk, Memory, JournalEnd, Accept}
use Rattle.glacier_server.specs.Acts.{Act, accept}
use Rattle.glacier_server.specs.Serving.{ServedAll, acts_of, readings_of, Comes, Serves, BreaksLast, ServedTill, Breaks, JustAccepted}
use Rattle.glacier_server.specs.Session.{Session}
use Rattle.glacier_server.specs.Does.{nothing, breaking}
use Rattle.glacier_server.proofs.DoesLemmas.{does_nothing, does_then, does_says, does_quiet, does_accept}
use Rattle.glacier_server.specs.Placed.{Placed}

served-append : (config : Config) (cs ds : List Connection) (ss ts : List Session) (placed mid new : Placed)
    → ServedAll config cs ss placed mid → ServedAll config ds ts mid new
    → ServedAll config (cs ++ ds) (ss ++ ts) placed new
served-append config [] ds [] ts placed mid new same more = subst (λ (k : Placed). ServedAll config ds ts k new) same more
served-append config [] ds (s ∷ ss) ts placed mid new never more = absurd never
served-append config (c ∷ cs) ds [] ts placed mid new never more = absurd never
served-append config (c ∷ cs) ds (s ∷ ss) ts placed mid new (starts, one, rest) more =
    (starts, one, served-append config cs ds ss ts s.after mid new rest more)

acts-append : (ss ts : List Session) → acts_of (ss ++ ts) ≡ acts_of ss ++ acts_of ts
acts-append [] ts = refl
acts-append (s ∷ ss) ts = ap (λ (l : List Act). accept ∷ l) (ap (λ (l : List Act). s.acts ++ l) (acts-append ss ts)
    ∙ sym (append_assoc s.acts (acts_of ss) (acts_of ts)))

readings-append : (ss ts : List Session) → readings_of (ss ++ ts) ≡ readings_of ss ++ readings_of ts
readings-append [] ts = refl
readings-append (s ∷ ss) ts = ap (λ (l : List ℕ). s.readings ++ l) (readings-append ss ts)
    ∙ sym (append_assoc s.readings (readings_of ss) (readings_of ts))

-- none came, and one stretch after another
came_none : {old new : Told} → new.connections ≡ old.connections → new.readings ≡ old.readings → Comes old new [] []
came_none same read = record { behind = same ∙ sym (append-nil _); read = read ∙ sym (append-nil _) }

came_then : {a b c : Told} {cs ds : List Connection} {ss ts : List Session} → Comes a b cs ss → Comes b c ds ts
    → Comes a c (cs ++ ds) (ss ++ ts)
came_then {a = a} {cs = cs} {ds = ds} {ss = ss} {ts = ts} first second = record {
  behind = second.behind ∙ ap (λ (l : List Connection). l ++ ds) first.behind ∙ append_assoc _ cs ds;
  read =
      second.read ∙ ap (λ (l : List ℕ). l ++ readings_of ts) first.read
      ∙ append_assoc _ (readings_of ss) (readings_of ts)
      ∙ ap (λ (l : List ℕ). a.readings ++ l) (sym (readings-append ss ts));
}

-- a call of the listener that finds the next connection
pub just_accepted : {E : Type 0} {old new : Told} {result : Result Bool E} (placed : Placed)
    → AcceptCall old new result → (input : List ℕ) → new.connections ≡ old.connections ++ accepted input ∷ []
    → old.listener.to_come ≡ 1 + new.listener.to_come → JustAccepted old new placed
just_accepted {old = old} placed call input next fewer = record {
  input = input;
  next = next;
  readings = call.readings;
  fewer = fewer;
  does = does_accept placed call.disk.rests call.time (ap sent_on next ∙ sent_next old.connections input);
}

pub serves_none : {E : Type 0} {config : Config} {old new : Told} {placed : Placed} {result : Result Bool E}
    → AcceptCall old new result → new.connections ≡ old.connections → new.listener.to_come ≡ old.listener.to_come
    → Serves config old new placed placed 0
serves_none {placed = placed} call same come = record {
  came = [];
  sessions = [];
  comes = came_none same call.readings;
  does = does_quiet placed nothing call.disk.rests call.time (ap sent_on same);
  number = refl;
  fewer = omega (arith, come);
  each = refl;
}

pub serves_nothing : {config : Config} (s : Told) (placed : Placed) → Serves config s s placed placed 0
serves_nothing s placed = record {
  came = [];
  sessions = [];
  comes = came_none refl refl;
  does = does_nothing s placed;
  number = refl;
  fewer = omega arith;
  each = refl;
}

pub serves_then : {config : Config} {a b c : Told} {placed mid new : Placed} {n k : ℕ}
    → Serves config a b placed mid n → Serves config b c mid new k → Serves config a c placed new (n + k)
serves_then {config = config} {placed = placed} {mid = mid} {new = new} first second = record {
  came = first.came ++ second.came;
  sessions = first.sessions ++ second.sessions;
  comes = came_then first.comes second.comes;
  does = does_says (sym (acts-append first.sessions second.sessions)) (does_then first.does second.does);
  number = omega (arith, first.number, second.number, length-append first.came second.came);
  fewer = omega (arith, first.fewer, second.fewer);
  each = served-append config first.came second.came first.sessions second.sessions placed mid new first.each second.each;
}

last_after : (config : Config) (fault : ServeFault) (cs ds : List Connection) (ss ts : List Session) (placed mid : Placed)
    → ServedAll config cs ss placed mid → BreaksLast config ds ts mid fault
    → BreaksLast config (cs ++ ds) (ss ++ ts) placed fault
last_after config fault cs ds ss ts placed mid served x = record {
  first = cs ++ x.first;
  last = x.last;
  before = ss ++ x.before;
  here = x.here;
  came_are = ap (λ (l : List Connection). cs ++ l) x.came_are ∙ sym (append_assoc cs x.first (x.last ∷ []));
  sessions_are = ap (λ (l : List Session). ss ++ l) x.sessions_are ∙ sym (append_assoc ss x.before (x.here ∷ []));
  served = served-append config cs x.first ss x.before placed mid x.here.before served x.served;
  all = x.all;
  part = x.part;
  broken = x.broken;
  prompt = x.prompt;
}

breaks_after : (config : Config) (fault : ServeFault) (cs ds : List Connection) (ss ts : List Session)
    (placed mid after : Placed)
    → ServedAll config cs ss placed mid → ServedTill config fault ds ts mid after
    → ServedTill config fault (cs ++ ds) (ss ++ ts) placed after
breaks_after config Disk cs ds ss ts placed mid after first x = last_after config Disk cs ds ss ts placed mid first x
breaks_after config Memory cs ds ss ts placed mid after first x = last_after config Memory cs ds ss ts placed mid first x
breaks_after config (JournalEnd end) cs ds ss ts placed mid after first x =
    last_after config (JournalEnd end) cs ds ss ts placed mid first x
breaks_after config Accept cs ds ss ts placed mid after first x = served-append config cs ds ss ts placed mid after first x

pub breaks_then : {config : Config} {a b c : Told} {placed mid : Placed} {n k most : ℕ} {fault : ServeFault}
    → n + k ≤ most → Serves config a b placed mid n
    → Breaks config b c mid k fault → Breaks config a c placed most fault
breaks_then {config = config} {placed = placed} {mid = mid} {fault = fault} within first second = record {
  came = first.came ++ second.came;
  sessions = first.sessions ++ second.sessions;
  after = second.after;
  comes = came_then first.comes second.comes;
  does = does_says (sym (acts-append first.sessions second.sessions)) (does_then first.does second.does);
  few = omega (arith, first.number, second.few, within, length-append first.came second.came);
  till = breaks_after config fault first.came second.came first.sessions second.sessions placed mid second.after first.each second.till;
}

pub breaks_accept : {E : Type 0} {config : Config} {old new : Told} {placed : Placed} {result : Result Bool E}
    → AcceptCall old new result → new.connections ≡ old.connections → Breaks config old new placed 1 Accept
breaks_accept {placed = placed} call same = record {
  came = [];
  sessions = [];
  after = placed;
  comes = came_none same call.readings;
  does = does_quiet placed breaking call.disk.rests call.time (ap sent_on same);
  few = omega arith;
  till = refl;
}
