-- Sessions one after another, and the waits in them.
use Rattle.std.proofs.Common.{◌≡◌, ℕ, List, ◌++◌, length, refl, sym, ap, ◌∙◌, arith, append_assoc, length-append}
use Rattle.std.specs.Prelude.{All}
use Rattle.std.proofs.lemmas.List.Elements.{All-append}
use Rattle.glacier_disk.specs.Network.{Wait}
use Rattle.glacier_server.specs.Acts.{Act, bytes_of}
use Rattle.glacier_server.specs.Placed.{Placed}
use Rattle.glacier_server.specs.Session.{Session, IsFront, IsFrontOf, wait_after, HeldAt, HeldWaiting, answering}
use Rattle.glacier_server.proofs.ActLemmas.{bytes_of-append}

-- one behind the other
abbrev pub joined : Session → Session → Session
joined s t = record {
  before = s.before;
  after = t.after;
  taken = s.taken ++ t.taken;
  acts = s.acts ++ t.acts;
  readings = s.readings ++ t.readings;
  waits = s.waits ++ t.waits;
}

pub all_more : {X : Type 0} (P Q : X → Type 0) (xs : List X) → ((x : X) → P x → Q x) → All P xs → All Q xs
all_more P Q xs each all = λ k d within. each _ (all k d within)

-- two points are the same where their counts are
pub same_wait : (a b c d : ℕ) → a ≡ b → c ≡ d
    → (let w : Wait = record { taken = a; sent = c } in w) ≡ record { taken = b; sent = d }
same_wait a b c d first second =
    ap (λ (k : ℕ). (let w : Wait = record { taken = k; sent = c } in w)) first
    ∙ ap (λ (k : ℕ). (let w : Wait = record { taken = b; sent = k } in w)) second

front_more : {A : Type 0} (front all more : List A) → IsFront front all → IsFront front (all ++ more)
front_more {A} front all more (rest, is) = (
  rest ++ more,
  ap (λ (l : List A). l ++ more) is
      ∙ append_assoc front rest more,
)

front_behind : {A : Type 0} (first front all : List A) → IsFront front all → IsFront (first ++ front) (first ++ all)
front_behind {A} first front all (rest, is) = (
  rest,
  ap (λ (l : List A). first ++ l) is
      ∙ sym (append_assoc first front rest),
)

wait_joined : (start : Wait) (s u : Session) → wait_after (wait_after start s) u ≡ wait_after start (joined s u)
wait_joined start s u =
    same_wait _ _ _ _ (omega (arith, length-append s.taken u.taken))
    (omega (arith, ap length (bytes_of-append s.acts u.acts), length-append (bytes_of s.acts) (bytes_of u.acts)))

-- waits of the first stretch, and of the one behind it
held_more : (start : Wait) (s t : Session) (P : Session → Type 0) (w : Wait) → HeldAt start s P w
    → HeldAt start (joined s t) P w
held_more start s t P w x = record {
  till = x.till;
  front = record {
    before = x.front.before;
    taken = front_more x.till.taken s.taken t.taken x.front.taken;
    acts = front_more x.till.acts s.acts t.acts x.front.acts;
    readings = front_more x.till.readings s.readings t.readings x.front.readings;
  };
  at = x.at;
  holds = x.holds;
}

-- the same waits, where more was done behind the last one
pub held_on : {start : Wait} {before after later : Placed} {got : List ℕ} {acts : List Act} {r : ℕ}
    {P : Session → Type 0} (waits : List Wait) (more : List Act)
    → HeldWaiting start (answering before after got acts r waits) P
    → HeldWaiting start (answering before later got (acts ++ more) r waits) P
held_on {start = start} {before = before} {after = after} {later = later} {got = got} {acts = acts} {r = r} {P = P}
    waits more =
    all_more (HeldAt start (answering before after got acts r waits) P)
    (HeldAt start (answering before later got (acts ++ more) r waits) P) waits
    (λ w x. record {
      till = x.till;
      front = record {
        before = x.front.before;
        taken = x.front.taken;
        acts = front_more x.till.acts acts more x.front.acts;
        readings = x.front.readings;
      };
      at = x.at;
      holds = x.holds;
    })

held_behind : (start : Wait) (s t : Session) (P Q : Session → Type 0) → ((u : Session) → IsFrontOf u t → Q u
    → P (joined s u)) → (w : Wait)
    → HeldAt (wait_after start s) t Q w → HeldAt start (joined s t) P w
held_behind start s t P Q leads w x = record {
  till = joined s x.till;
  front = record {
    before = refl;
    taken = front_behind s.taken x.till.taken t.taken x.front.taken;
    acts = front_behind s.acts x.till.acts t.acts x.front.acts;
    readings = front_behind s.readings x.till.readings t.readings x.front.readings;
  };
  at = x.at ∙ wait_joined start s x.till;
  holds = leads x.till x.front x.holds;
}

pub held_then : (start : Wait) (s t : Session) (P Q : Session → Type 0) → HeldWaiting start s P
    → HeldWaiting (wait_after start s) t Q
    → ((u : Session) → IsFrontOf u t → Q u → P (joined s u)) → HeldWaiting start (joined s t) P
held_then start s t P Q first second leads =
    All-append (HeldAt start (joined s t) P) s.waits t.waits
    (all_more (HeldAt start s P) (HeldAt start (joined s t) P) s.waits (held_more start s t P) first)
    (all_more (HeldAt (wait_after start s) t Q) (HeldAt start (joined s t) P) t.waits
    (held_behind start s t P Q leads) second)
