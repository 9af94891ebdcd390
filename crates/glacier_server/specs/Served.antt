-- What was done on a connection for the bytes that were taken on it.
use Rattle.std.specs.Prelude.{◌≡◌, ℕ, ◌≤◌, ◌⊎◌, List, [], ◌++◌, length, take, drop, Option, Some, None, Result, Ok, Err}
use Rattle.httparse.specs.Grammar.{RequestHead}
use Rattle.glacier_disk.specs.Network.{Wait, wait_of}
use Rattle.glacier_disk.specs.Told.{Told}
use Rattle.glacier_http.specs.Opening.{BeginsHead}
use Rattle.glacier_http.specs.Messages.{Message, Hears, Heard, BeginsNone, InputEnd, closed, cut, refused, bound, end_of_rest}
use Rattle.glacier_machine.specs.declared.config.Config.{Config}
use Rattle.glacier_server.specs.declared.end.End.{End}
use Rattle.glacier_server.specs.declared.end.End.TheVariants.{Closed, Cut, Refused, Bound, ReadFault, SendFault}
use Rattle.glacier_server.specs.Acts.{Act, after_acts}
use Rattle.glacier_server.specs.Does.{Failing, nothing, receiving, sending, breaking}
use Rattle.glacier_server.specs.Out.{run, out, Tells}
use Rattle.glacier_server.specs.Session.{Session, HeldWaiting}
use Rattle.glacier_server.specs.Transfer.{Transfer, current}
use Rattle.glacier_server.specs.Turns.{Turn, IsNextOf, readings_for, acts_for}
use Rattle.glacier_replay.specs.Changes.{State}
use Rattle.glacier_server.specs.Placed.{Placed}

-- the messages heard in the bytes were run at these readings, and all that is told was done
pub record Runs (config : Config) (s : Session) (last : Option InputEnd) : Type 0 where
  pub messages : List Message
  pub rest : List ℕ
  pub hears : Hears 0 s.taken messages rest last
  pub enough : length messages ≤ length s.readings
  pub interim : List Act
  pub tells : Tells config (run config s.before.state messages s.readings) rest
      (drop (length messages) s.readings) interim
  pub all : s.acts ≡ out config 0 s.before.state messages s.readings ++ interim
  pub after_them : s.after.state ≡ after_acts (run config s.before.state messages s.readings) interim

-- the last message made the end, with one reading for each message
pub record EndsLast (config : Config) (s : Session) (end : InputEnd) : Type 0 where
  pub runs : Runs config s (Some end)
  pub each : length s.readings ≡ length runs.messages

-- no message is the last, and all that is heard was answered: no message is missing a reading, nor is
-- the rest's good head
pub record Stops (config : Config) (s : Session) : Type 0 where
  pub runs : Runs config s None
  pub none : BeginsNone runs.rest
  pub head : length s.readings ≡ length runs.messages → (h : RequestHead) (more : List ℕ)
      → ¬ (BeginsHead runs.rest h more)

-- the input ended, where no message was the last
pub record EndsInput (config : Config) (s : Session) (coming : List ℕ) (end : InputEnd) : Type 0 where
  pub stops : Stops config s
  pub end_is : end ≡ end_of_rest stops.runs.rest
  pub none_left : coming ≡ []

-- what is to be done for these bytes, with these readings: for the messages heard in them
pub record IsOut (config : Config) (taken readings : List ℕ) (state : State) (acts : List Act)
    : Type 0 where
  pub messages : List Message
  pub rest : List ℕ
  pub end : InputEnd
  pub heard : Heard taken messages rest end
  pub interim : List Act
  pub tells : Tells config (run config state messages readings) rest (drop (length messages) readings) interim
  pub acts_are : acts ≡ out config 0 state messages readings ++ interim

-- the same, where each of these messages has its reading
pub record IsWholeOut (config : Config) (taken readings : List ℕ) (state : State) (acts : List Act)
    : Type 0 where
  pub is_out : IsOut config taken readings state acts
  pub enough : length is_out.messages ≤ length readings

-- what was done is a first part of it
abbrev pub IsPartOfOut : Config → Session → Type 0
IsPartOfOut config s =
    (all undone : List Act) × IsOut config s.taken s.readings s.before.state all × (all ≡ s.acts ++ undone)

-- all was done for these messages, the first of those heard and each at its reading, and a first part for the turn
-- that stands behind them, if it has a reading; nothing was done for a later one
pub record AnsweredPart (config : Config) (s : Session) : Type 0 where
  pub messages : List Message
  pub rest : List ℕ
  pub hears : Hears 0 s.taken messages rest None
  pub enough : length messages ≤ length s.readings
  pub last : Option (Turn × ℕ)
  pub next : IsNextOf rest last
  pub read : drop (length messages) s.readings ≡ readings_for last
  pub count : ℕ
  pub all : s.acts ≡ out config 0 s.before.state messages s.readings
      ++ take count (acts_for config (length messages) (run config s.before.state messages s.readings) last)
  pub after_is : s.after.state ≡ after_acts s.before.state s.acts

abbrev pub Part : Config → Session → Type 0
Part config s = IsPartOfOut config s × AnsweredPart config s

-- how a connection that ended so was served, where these bytes were still to come
abbrev pub Served : Config → Session → List ℕ → End → Type 0
Served config s coming Closed = EndsLast config s closed ⊎ EndsInput config s coming closed
Served config s coming (Cut n) = EndsInput config s coming (cut n)
Served config s coming Refused = EndsLast config s refused
Served config s coming Bound = EndsLast config s bound
Served config s coming ReadFault = Stops config s
Served config s coming SendFault = Part config s

-- each time that bytes were waited for, all was done that was due: what is heard in the bytes taken
-- till then was answered, at the readings taken till then
abbrev pub IsPrompt : Config → Wait → Session → Type 0
IsPrompt config start s = HeldWaiting start s (Stops config)

-- the call whose failure is this end, if any
abbrev pub failing_of : End → Failing
failing_of Closed = nothing
failing_of (Cut n) = nothing
failing_of Refused = nothing
failing_of Bound = nothing
failing_of ReadFault = receiving
failing_of SendFault = sending

-- the same of what is answered: an error breaks the server off
abbrev pub failing_to : {T E : Type 0} → Result (End × T) E → Failing
failing_to (Ok r) = failing_of r.0
failing_to (Err e) = breaking

-- the last connection was served to this end
pub record ServedLast (config : Config) (old new : Told) (placed after : Placed) (end : End) : Type 0 where
  pub session : Session
  pub starts : session.before ≡ placed
  pub leaves : session.after ≡ after
  pub transfer : Transfer old new session (failing_of end)
  pub served : Served config session (current new.connections).coming end
  pub prompt : IsPrompt config (wait_of (current old.connections)) session
