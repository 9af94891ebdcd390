-- The ends that messages make, and what is done for a bad head.
use Rattle.std.proofs.Common.{◌≡◌, ℕ, ◌+◌, Bool, true, false, List, [], ◌++◌, take, Some, None, inl, refl, sym, ap, subst, ◌∙◌, append-nil}
use Rattle.std.specs.Prelude.{Option, if◌then◌else◌, ◌==◌}
use Rattle.std.specs.Option.{is_some}
use Rattle.glacier_http.specs.declared.bad_head.BadHead.{BadHead}
use Rattle.glacier_http.specs.declared.limits.TheConstants.{MOST_MESSAGES}
use Rattle.glacier_http.specs.Judged.{closes}
use Rattle.glacier_http.specs.Messages.{Message, good as Good, bad as Bad, Begins, InputEnd, closed, cut, refused, bound, last_end}
use Rattle.glacier_http.specs.Opening.{BeginsBad}
use Rattle.glacier_machine.specs.declared.config.Config.{Config}
use Rattle.glacier_server.specs.Acts.{Act, sends}
use Rattle.glacier_server.specs.declared.end.End.{End}
use Rattle.glacier_server.specs.Exchange.{Standing, Exchange, exchange_on, Answers, AnswersPart, IsExchange, end_for_some}
use Rattle.glacier_server.specs.Machine.{reply, after, further, happened}
use Rattle.glacier_server.specs.Out.{told}
use Rattle.glacier_server.specs.Session.{answering}
use Rattle.glacier_server.specs.Turns.{whole}

-- the ends that a message makes
IsLast : InputEnd → Type 0
IsLast closed = Unit {0}
IsLast (cut n) = ⊥
IsLast refused = Unit {0}
IsLast bound = Unit {0}

is_last : (n : ℕ) (m : Message) (e : InputEnd) → last_end n m ≡ Some e → IsLast e
unfolding IsLast
is_last n (Good h body) e is = good_last (n + 1 == MOST_MESSAGES) (closes h) is
  where
    good_last : (t c : Bool) → (if t then Some bound else if c then Some closed else None) ≡ Some e → IsLast e
    good_last true c is = let same : bound ≡ e = cc in subst IsLast same tt
    good_last false true is = let same : closed ≡ e = cc in subst IsLast same tt
    good_last false false is = absurd (cc)
is_last n (Bad cause) e is = bad_last (n + 1 == MOST_MESSAGES) is
  where
    bad_last : (t : Bool) → (if t then Some bound else Some refused) ≡ Some e → IsLast e
    bad_last true is = let same : bound ≡ e = cc in subst IsLast same tt
    bad_last false is = let same : refused ≡ e = cc in subst IsLast same tt

pub exchange_of : (config : Config) (x : Exchange) (last : Option InputEnd) (a : Answers config x last)
    → (last ≡ None → a.rest ≡ x.left)
    → IsExchange config x (end_for_some last)
unfolding IsLast
exchange_of config x None a left = (a, left refl)
exchange_of config x (Some closed) a left = inl a
exchange_of config x (Some (cut k)) a left = absurd (is_last x.count a.message (cut k) a.end)
exchange_of config x (Some refused) a left = a
exchange_of config x (Some bound) a left = a

-- the end is shown exactly where there is one
pub same_close : (o : Option InputEnd) → is_some (end_for_some o) ≡ is_some o
same_close None = refl
same_close (Some e) = refl

-- a bad head
bad_closes : (n : ℕ) (cause : BadHead) → is_some (last_end n (Bad cause)) ≡ true
bad_closes n cause = go (n + 1 == MOST_MESSAGES)
  where
    go : (t : Bool) → is_some (if t then Some bound else Some refused) ≡ true
    go true = refl
    go false = refl

module _ (config : Config) (from : Standing) (r : ℕ) (cause : BadHead) (rest : List ℕ)
    (stands : BeginsBad from.unread cause rest) where
  text : List ℕ
  text = reply config from.placed.state (Bad cause) r true

  bad_told : told config from.count from.placed.state (Bad cause) r ≡ sends text
  unfolding further happened text
  bad_told = ap (λ (b : Bool). sends (reply config from.placed.state (Bad cause) r b)) (bad_closes from.count cause)

  begins_bad : Begins (from.unread ++ []) (Bad cause) rest
  begins_bad = subst (λ (l : List ℕ). BeginsBad l cause rest) (sym (append-nil from.unread)) stands

  pub bad_answered : (left coming : List ℕ) (e : End) → end_for_some (last_end from.count (Bad cause)) ≡ Some e
      → after config from.placed.state (Bad cause) r ≡ from.placed.state
      → IsExchange config (exchange_on from left coming (answering from.placed from.placed [] (sends
      (reply config from.placed.state (Bad cause) r true)) r [])) (Some e)
  unfolding text
  bad_answered left coming e end same =
      let x = exchange_on from left coming (answering from.placed from.placed [] (sends (reply config from.placed.state
      (Bad cause) r true)) r []) in
      subst (λ (o : Option End). IsExchange config x o) end
      (exchange_of config x (last_end from.count (Bad cause)) (record {
        message = Bad cause;
        reading = r;
        rest = rest;
        begins = begins_bad;
        end = refl;
        one = refl;
        all = sym bad_told;
        after_it = sym same;
      }) (λ none. let never : None ≡ Some e = sym (ap end_for_some none) ∙ end in absurd (cc)))

  pub bad_part : (left coming : List ℕ) (k : ℕ)
      → AnswersPart config (exchange_on from left coming (answering from.placed from.placed [] (take k (sends
      (reply config from.placed.state (Bad cause) r true))) r []))
  unfolding text
  bad_part left coming k = record {
    turn = whole (Bad cause);
    reading = r;
    rest = rest;
    next = begins_bad;
    one = refl;
    count = k;
    part = ap (λ (l : List Act). take k l) (sym bad_told);
  }
