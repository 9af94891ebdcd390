-- What stands next on a connection: a whole message, or one whose body isn't whole.
use Rattle.std.specs.Prelude.{ℕ, List, [], ◌∷◌, Option, Some, None}
use Rattle.httparse.specs.Grammar.{RequestHead}
use Rattle.glacier_http.specs.Messages.{Message, Begins, BeginsNone}
use Rattle.glacier_http.specs.Interim.{interim_of}
use Rattle.glacier_http.specs.Opening.{BeginsHead}
use Rattle.glacier_machine.specs.declared.config.Config.{Config}
use Rattle.glacier_server.specs.Acts.{Act}
use Rattle.glacier_server.specs.Machine.{begun_events, happened, passed}
use Rattle.glacier_server.specs.Out.{begin_acts, interim, told}
use Rattle.glacier_replay.specs.Changes.{State}
use Rattle.glacier_vault.specs.Accounts.{AccountEvent}

-- a message, or a good head whose body isn't whole
pub data Turn : Type 0 where
  whole : Message → Turn
  begun : RequestHead → Turn

-- the input begins with the turn, and the rest follows
abbrev pub IsNext : List ℕ → Turn → List ℕ → Type 0
IsNext input (whole m) rest = Begins input m rest
IsNext input (begun h) rest = BeginsHead input h rest × BeginsNone input

-- what is done for it: n messages stand before it
abbrev pub turn_acts : Config → ℕ → State → Turn → ℕ → List Act
turn_acts config n state (whole m) reading = told config n state m reading
turn_acts config n state (begun h) reading = begin_acts config state h reading

-- its interim line
abbrev pub turn_interim : Turn → List ℕ
turn_interim (whole m) = interim m
turn_interim (begun h) = interim_of h

-- its events, and those of them that are of time that passes
abbrev pub turn_events : Config → State → Turn → ℕ → List AccountEvent
turn_events config state (whole m) reading = happened config state m reading
turn_events config state (begun h) reading = begun_events config state h reading

abbrev pub turn_passed : Config → State → Turn → ℕ → List AccountEvent
turn_passed config state (whole m) reading = passed config state m reading
turn_passed config state (begun h) reading = begun_events config state h reading

-- the same of a turn with its reading, if there is one: what stands next, the reading, and what is done
abbrev pub IsNextOf : List ℕ → Option (Turn × ℕ) → Type 0
IsNextOf input None = Unit {0}
IsNextOf input (Some last) = (rest : List ℕ) × IsNext input last.0 rest

abbrev pub readings_for : Option (Turn × ℕ) → List ℕ
readings_for None = []
readings_for (Some last) = last.1 ∷ []

abbrev pub acts_for : Config → ℕ → State → Option (Turn × ℕ) → List Act
acts_for config n state None = []
acts_for config n state (Some last) = turn_acts config n state last.0 last.1
