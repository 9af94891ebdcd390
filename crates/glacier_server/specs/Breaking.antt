-- Why the server broke off, and what was done for the last message.
use Rattle.std.specs.Prelude.{◌≡◌, ◌⊎◌, ℕ, IsTrue, List, [], ◌++◌, Option, Some, None, Result, Ok, Err}
use Rattle.std.specs.Option.{is_some}
use Rattle.glacier_base.specs.Outside.{HasRisen}
use Rattle.glacier_disk.specs.Network.{wait_of}
use Rattle.glacier_disk.specs.Told.{Told}
use Rattle.glacier_machine.specs.Outcomes.{one}
use Rattle.glacier_replay.specs.Changes.{State}
use Rattle.glacier_machine.specs.declared.config.Config.{Config}
use Rattle.glacier_server.specs.declared.end.ServeFault.{ServeFault}
use Rattle.glacier_server.specs.declared.end.ServeFault.TheVariants.{Disk, Memory, JournalEnd, Accept}
use Rattle.glacier_server.specs.Acts.{Act, bytes_of, events_in}
use Rattle.glacier_server.specs.Does.{Grew, breaking}
use Rattle.glacier_server.specs.Exchange.{Standing, exchange_on, AnswersPart, Idles}
use Rattle.glacier_server.specs.Machine.{happened}
use Rattle.glacier_server.specs.Out.{run, out}
use Rattle.glacier_server.specs.Rooms.{EndsJournal}
use Rattle.glacier_server.specs.Served.{AnsweredPart, Part, IsPrompt}
use Rattle.glacier_server.specs.Session.{Session, HeldWaiting, IsFront}
use Rattle.glacier_server.specs.Transfer.{Transfer, current}
use Rattle.glacier_server.specs.Turns.{Turn, begun, whole, turn_events, turn_interim, turn_passed}
use Rattle.glacier_server.specs.Placed.{Placed}

-- what broke a connection off, by the count of the disk's faults: no accept did
abbrev pub HasBroken : ServeFault → Told → Told → Type 0
HasBroken Disk old new = HasRisen old.disk_faults new.disk_faults
HasBroken Memory old new = new.disk_faults ≡ old.disk_faults
HasBroken (JournalEnd length) old new = new.disk_faults ≡ old.disk_faults
HasBroken Accept old new = ⊥

-- the count of the disk's faults shows whether it failed
abbrev pub ShowsDisk : {T : Type 0} → Result T ServeFault → Told → Told → Type 0
ShowsDisk (Ok x) old new = new.disk_faults ≡ old.disk_faults
ShowsDisk (Err fault) old new = HasBroken fault old new

-- no byte of the reply to a turn is among these acts: at most those of its interim line are
abbrev pub NoReplyTo : Turn → List Act → Type 0
NoReplyTo turn acts = IsFront (bytes_of acts) (turn_interim turn)

-- a message has an output, and all its events were kept: then a call of the disk may fail while the output's bytes are
-- read and sent
abbrev pub IsAmidOutput : Config → State → Turn → ℕ → List Act → Type 0
IsAmidOutput config state (whole m) reading acts =
    IsTrue (is_some (one config state.accounts m reading).output) × (events_in acts ≡ happened config state m reading)
IsAmidOutput config state (begun h) reading acts = ⊥

-- what was done for a turn at a reading, from this store, before the server broke off: no byte of its reply was sent,
-- unless it has an output; for want of memory no event was kept but of time that passes, and where the journal was at its end, there was no room
-- for the next of its events
abbrev pub BrokenFor : Config → Placed → Turn → ℕ → List Act → ServeFault → Type 0
BrokenFor config placed turn reading acts Disk =
    NoReplyTo turn acts ⊎ IsAmidOutput config placed.state turn reading acts
BrokenFor config placed turn reading acts Memory = NoReplyTo turn acts
    × IsFront (events_in acts) (turn_passed config placed.state turn reading)
BrokenFor config placed turn reading acts (JournalEnd length) = NoReplyTo turn acts
    × EndsJournal placed.store (turn_events config placed.state turn reading) length
BrokenFor config placed turn reading acts Accept = ⊥

-- they took what stands there, and the server broke off before its reply
pub record BreaksOff (config : Config) (from : Standing) (old new : Told) (fault : ServeFault) : Type 0 where
  pub session : Session
  pub starts : session.before ≡ from.placed
  pub transfer : Transfer old new session breaking
  pub part : AnswersPart config (exchange_on from [] [] session)
  pub broken : BrokenFor config from.placed part.turn part.reading session.acts fault
  pub idle : HeldWaiting (wait_of (current old.connections)) session
      (λ till. Idles config (exchange_on from [] [] till))

-- the same where there may be no turn: only memory was wanting then, and nothing was done
abbrev pub LastBroken : Config → Placed → Option (Turn × ℕ) → List Act → ServeFault → Type 0
LastBroken config placed None acts fault = (fault ≡ Memory) × (acts ≡ [])
LastBroken config placed (Some last) acts fault = BrokenFor config placed last.0 last.1 acts fault

-- what was done for the last turn, and why, before the server broke off, from the store that the messages before it left
pub record BrokenBy (config : Config) (s : Session) (part : AnsweredPart config s) (fault : ServeFault) : Type 0 where
  pub placed : Placed
  pub state : placed.state ≡ run config s.before.state part.messages s.readings
  pub grew : Grew s.before placed (out config 0 s.before.state part.messages s.readings)
  pub acts : List Act
  pub behind : s.acts ≡ out config 0 s.before.state part.messages s.readings ++ acts
  pub broken : LastBroken config placed part.last acts fault

-- the server broke off: on the last connection all was done for the messages before the last turn, and for that what
-- the fault says
pub record PartLast (config : Config) (old new : Told) (placed : Placed) (fault : ServeFault) : Type 0 where
  pub session : Session
  pub starts : session.before ≡ placed
  pub transfer : Transfer old new session breaking
  pub part : Part config session
  pub broken : BrokenBy config session part.1 fault
  pub prompt : IsPrompt config (wait_of (current old.connections)) session
