-- How much of the text of an output went out.
use Rattle.std.specs.Prelude.{◌≡◌, ℕ, ◌+◌, ◌<◌, ◌≤◌, true, List, [], length, take, Option, Some, Result, Ok, Err, IfSome}
use Rattle.glacier_base.specs.Outside.{HasRisen}
use Rattle.glacier_disk.specs.Calls.{Rests}
use Rattle.glacier_disk.specs.Told.{Told}
use Rattle.glacier_machine.specs.declared.action.Output.{Output}
use Rattle.glacier_replay.specs.Changes.{State}
use Rattle.glacier_vault.specs.Accounts.{Accounts}
use Rattle.glacier_server.specs.declared.output_sender.OutputFault.{OutputFault}
use Rattle.glacier_server.specs.declared.output_sender.OutputFault.TheVariants.{Send, Disk}
use Rattle.glacier_server.specs.Does.{Failing, nothing, sending, breaking}
use Rattle.glacier_server.specs.Transfer.{Keeps, SentAll, SentPart}
use Rattle.glacier_store.specs.Kept.{IsHeldBy}
use Rattle.glacier_store.specs.Outputs.{HasStretch}
use Rattle.glacier_store.specs.declared.store.Store.{Store}

-- a connection is open, and so is the disk
pub record IsReady (told : Told) : Type 0 where
  pub connected : told.connected ≡ true
  pub opened : told.opened ≡ true

-- the disk holds a store as this state
pub record IsHeldIn (told : Told) (store : Store) (state : State) : Type 0 where
  pub accounts : state.accounts ≡ store.accounts
  pub held : IsHeldBy told store.journal store.area.blobs state

-- the archive of an output is there, with all its bytes
abbrev pub IsThere : Accounts → Output → Type 0
IsThere accounts output = HasStretch accounts output.account output.stretch

-- the same where there may be no output
abbrev pub IsWhole : Accounts → Option Output → Type 0
IsWhole accounts output = IfSome output (IsThere accounts)

-- the head of a text went out, and of the count bytes that it promises those before a piece that couldn't be read
pub record SentTill (old new : Told) (head text : List ℕ) (count : ℕ) : Type 0 where
  pub till : ℕ
  pub head_sent : length head ≤ till
  pub below : till < length head + count
  pub sent : SentAll old new (take till text)

-- what of a text went out, by what was answered; nothing else was done
abbrev pub SentBy : {T : Type 0} → Told → Told → List ℕ → List ℕ → ℕ → Result T OutputFault → Type 0
SentBy old new head text count (Ok x) = SentAll old new text
SentBy old new head text count (Err Send) = SentPart old new text
SentBy old new head text count (Err Disk) = SentTill old new head text count

-- a text went out, which has as many bytes behind its head as that promises, or why it went out in part
pub record SendsOutput {T : Type 0} (old new : Told) (head text : List ℕ) (count : ℕ) (result : Result T OutputFault)
    : Type 0 where
  pub whole : length text ≡ length head + count
  pub sent : SentBy old new head text count result

-- what of an answer's text went out: the disk fails amid an output alone
abbrev pub SendsAnswer : {T : Type 0} → Told → Told → Option Output → List ℕ → Result T OutputFault → Type 0
SendsAnswer old new output text (Ok x) = SentAll old new text
SendsAnswer old new output text (Err Send) = SentPart old new text
SendsAnswer old new output text (Err Disk) =
    (given : Output) × (output ≡ Some given) × (till : ℕ) × (till < length text) × SentAll old new (take till text)

-- a piece was read and sent, and how many bytes it has
abbrev pub SendsPiece : Told → Told → List ℕ → Result ℕ OutputFault → Type 0
SendsPiece old new piece (Ok n) = (n ≡ length piece) × SentAll old new piece
SendsPiece old new piece (Err Send) = SentPart old new piece
SendsPiece old new piece (Err Disk) = SentAll old new []

-- what failed, by what was answered
abbrev pub failing_by : {T : Type 0} → Result T OutputFault → Failing
failing_by (Ok x) = nothing
failing_by (Err Send) = sending
failing_by (Err Disk) = breaking

-- the count of the disk's faults shows whether it failed
abbrev pub ShowsFault : {T : Type 0} → Result T OutputFault → Told → Told → Type 0
ShowsFault (Ok x) old new = new.disk_faults ≡ old.disk_faults
ShowsFault (Err Send) old new = new.disk_faults ≡ old.disk_faults
ShowsFault (Err Disk) old new = HasRisen old.disk_faults new.disk_faults

-- on every form: what every stretch of calls on a connection keeps, and neither the disk nor the clock went on
pub record OnlySends (old new : Told) (failing : Failing) : Type 0 where
  pub keeps : Keeps old new failing
  pub rests : Rests old new
  pub readings : new.readings ≡ old.readings
