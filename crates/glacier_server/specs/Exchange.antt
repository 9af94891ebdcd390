-- One message more on a connection.
use Rattle.std.specs.Prelude.{◌≡◌, ◌⊎◌, ℕ, ◌+◌, ◌==◌, Bool, if◌then◌else◌, List, [], ◌∷◌, ◌++◌, take, Option, Some, None, Result, Ok, Err}
use Rattle.httparse.specs.Grammar.{RequestHead}
use Rattle.glacier_disk.specs.Network.{wait_of}
use Rattle.glacier_disk.specs.Told.{Told}
use Rattle.glacier_http.specs.declared.bad_head.BadHead.{BadHead}
use Rattle.glacier_http.specs.Opening.{BeginsHead, BeginsBad}
use Rattle.glacier_http.specs.declared.limits.TheConstants.{MOST_MESSAGES}
use Rattle.glacier_http.specs.Messages.{Message, Begins, BeginsNone, InputEnd, closed, cut, refused, bound, last_end, end_of_rest}
use Rattle.glacier_machine.specs.declared.config.Config.{Config}
use Rattle.glacier_server.specs.declared.end.End.{End}
use Rattle.glacier_server.specs.declared.end.End.TheVariants.{Closed, Cut, Refused, Bound, ReadFault, SendFault}
use Rattle.glacier_server.specs.Acts.{Act, after_acts}
use Rattle.glacier_server.specs.Does.{Failing, nothing, breaking}
use Rattle.glacier_server.specs.Machine.{after}
use Rattle.glacier_server.specs.Out.{told, Tells}
use Rattle.glacier_server.specs.Served.{failing_of}
use Rattle.glacier_server.specs.Session.{Session, HeldWaiting}
use Rattle.glacier_server.specs.Transfer.{Transfer, current}
use Rattle.glacier_server.specs.Turns.{Turn, IsNext, turn_acts}
use Rattle.glacier_replay.specs.Changes.{State}
use Rattle.glacier_server.specs.Placed.{Placed}

-- the end that is answered for the end of an input
abbrev pub end_for : InputEnd → End
end_for closed = Closed
end_for (cut n) = Cut n
end_for refused = Refused
end_for bound = Bound

-- the same where there may be none
abbrev pub end_for_some : Option InputEnd → Option End
end_for_some None = None
end_for_some (Some e) = Some (end_for e)

-- the end that a good message makes, if any: n stand before it, and it may ask for it
abbrev pub end_of_good : ℕ → Bool → Option End
end_of_good n closes =
    if n + 1 == MOST_MESSAGES then Some Bound else if closes then Some Closed else None

-- the call whose failure made the end, if there is one
abbrev pub failing_at : Option End → Failing
failing_at None = nothing
failing_at (Some end) = failing_of end

-- the same of what is answered: an error breaks the server off
abbrev pub failing_in : {T E : Type 0} → Result (Option End × T) E → Failing
failing_in (Ok r) = failing_at r.0
failing_in (Err e) = breaking

-- the same where an error is the end
abbrev pub failing_before : {T : Type 0} → Result T End → Failing
failing_before (Ok x) = nothing
failing_before (Err end) = failing_of end

-- the same where an error is want of memory, and the store is still there
abbrev pub failing_on : {E : Type 0} → Result End E → Failing
failing_on (Ok end) = failing_of end
failing_on (Err e) = nothing

-- where a connection stands between messages: so many were answered, these bytes are unread, with this store
pub record Standing : Type 0 where
  pub count : ℕ
  pub unread : List ℕ
  pub placed : Placed

abbrev pub standing : ℕ → List ℕ → Placed → Standing
standing count unread placed = record { count = count; unread = unread; placed = placed }

-- a bad head with this cause is next, behind so many messages
abbrev pub BadStands : Standing → ℕ → BadHead → Type 0
BadStands from count cause = (from.count ≡ count) × (rest : List ℕ) × BeginsBad from.unread cause rest

-- so many messages stand before it, these bytes were there, these are left unread and these to come,
-- and this was done, at these readings
pub record Exchange : Type 0 where
  pub count : ℕ
  pub input : List ℕ
  pub left : List ℕ
  pub coming : List ℕ
  pub before : State
  pub after : State
  pub acts : List Act
  pub readings : List ℕ

-- the exchange that a session is, from where a connection stands
abbrev pub exchange_on : Standing → List ℕ → List ℕ → Session → Exchange
exchange_on from left coming s = record {
  count = from.count;
  input = from.unread ++ s.taken;
  left = left;
  coming = coming;
  before = s.before.state;
  after = s.after.state;
  acts = s.acts;
  readings = s.readings;
}

-- the input begins with one message more, which is answered at one reading
pub record Answers (config : Config) (x : Exchange) (last : Option InputEnd) : Type 0 where
  pub message : Message
  pub reading : ℕ
  pub rest : List ℕ
  pub begins : Begins x.input message rest
  pub end : last_end x.count message ≡ last
  pub one : x.readings ≡ reading ∷ []
  pub all : x.acts ≡ told config x.count x.before message reading
  pub after_it : x.after ≡ after config x.before message reading

-- a first part of what is done for a turn that stands there
pub record AnswersPart (config : Config) (x : Exchange) : Type 0 where
  pub turn : Turn
  pub reading : ℕ
  pub rest : List ℕ
  pub next : IsNext x.input turn rest
  pub one : x.readings ≡ reading ∷ []
  pub count : ℕ
  pub part : x.acts ≡ take count (turn_acts config x.count x.before turn reading)

-- the input begins with no message, and all was done that is to be done before one is whole
pub record Idles (config : Config) (x : Exchange) : Type 0 where
  pub none : BeginsNone x.input
  pub same : x.after ≡ after_acts x.before x.acts
  pub tells : Tells config x.before x.input x.readings x.acts
  pub read : x.readings ≡ [] → (h : RequestHead) (more : List ℕ) → ¬ (BeginsHead x.input h more)

-- the input ended where no message is whole
abbrev pub EndsIdle : Config → Exchange → InputEnd → Type 0
EndsIdle config x end = Idles config x × (end ≡ end_of_rest x.input) × (x.coming ≡ [])

-- what became of the input: one message more was answered, or the connection ends
abbrev pub IsExchange : Config → Exchange → Option End → Type 0
IsExchange config x None = (a : Answers config x None) × (a.rest ≡ x.left)
IsExchange config x (Some Closed) = Answers config x (Some closed) ⊎ EndsIdle config x closed
IsExchange config x (Some (Cut taken)) = EndsIdle config x (cut taken)
IsExchange config x (Some Refused) = Answers config x (Some refused)
IsExchange config x (Some Bound) = Answers config x (Some bound)
IsExchange config x (Some ReadFault) = Idles config x
IsExchange config x (Some SendFault) = AnswersPart config x

-- calls on the last connection made an exchange, and at each wait nothing was due
pub record Exchanges (config : Config) (from to : Standing) (old new : Told) (end : Option End)
    : Type 0 where
  pub session : Session
  pub starts : session.before ≡ from.placed
  pub leaves : session.after ≡ to.placed
  pub transfer : Transfer old new session (failing_at end)
  pub exchange : IsExchange config
      (exchange_on from to.unread (current new.connections).coming session) end
  pub idle : HeldWaiting (wait_of (current old.connections)) session
      (λ till. Idles config (exchange_on from [] [] till))
