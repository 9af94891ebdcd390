-- What a stretch of calls does on the connection that was accepted last.
use Rattle.std.specs.Prelude.{◌≡◌, ℕ, ◌+◌, ◌<◌, ◌≤◌, true, List, [], ◌∷◌, ◌++◌, length, take, All, Result, Ok, Err}
use Rattle.glacier_base.specs.Outside.{one_more}
use Rattle.glacier_disk.specs.Network.{Connection, Wait, accepted, wait_of}
use Rattle.glacier_disk.specs.Told.{Told}
use Rattle.glacier_machine.specs.SignedRequests.{IsBodyKept}
use Rattle.glacier_server.specs.Acts.{sends, bytes_of}
use Rattle.glacier_server.specs.Does.{Does, Failing, nothing, receiving, sending, breaking}
use Rattle.glacier_server.specs.Session.{Session, taking, acting}
use Rattle.glacier_server.specs.Placed.{Placed}

-- the connection that was accepted last
abbrev pub current : List Connection → Connection
current [] = accepted []
current (c ∷ []) = c
current (c ∷ d ∷ cs) = current (d ∷ cs)

-- those before it
abbrev pub others : List Connection → List Connection
others [] = []
others (c ∷ []) = []
others (c ∷ d ∷ cs) = c ∷ others (d ∷ cs)

-- no byte of the last connection is left to come
abbrev pub NoneComing : Told → Type 0
NoneComing now = (current now.connections).coming ≡ []

-- the failing of a receive, and of a send
abbrev pub receiving_if : {T E : Type 0} → Result T E → Failing
receiving_if (Ok x) = nothing
receiving_if (Err e) = receiving

abbrev pub sending_if : {T E : Type 0} → Result T E → Failing
sending_if (Ok x) = nothing
sending_if (Err e) = sending

-- what a receive that answered so took, where it wrote to the front of a list
abbrev pub received : {E : Type 0} → Result ℕ E → List ℕ → List ℕ
received (Ok n) list = take n list
received (Err e) list = []

-- a connection's counts of failed calls show what failed, and nothing else
abbrev pub Fails : Failing → Connection → Connection → Type 0
Fails nothing old new =
    (new.receives_failed ≡ old.receives_failed) × (new.sends_failed ≡ old.sends_failed)
Fails receiving old new =
    (new.receives_failed ≡ one_more old.receives_failed) × (new.sends_failed ≡ old.sends_failed)
Fails sending old new =
    (new.receives_failed ≡ old.receives_failed) × (new.sends_failed ≡ one_more old.sends_failed)
Fails breaking old new =
    (new.receives_failed ≡ old.receives_failed) × (new.sends_failed ≡ old.sends_failed)

-- and so do the counts of the whole, on every form; the disk's is left to what broke the server off
abbrev pub Counts : Failing → Told → Told → Type 0
Counts nothing old new = (new.receive_faults ≡ old.receive_faults) × (new.send_faults ≡ old.send_faults)
    × (new.disk_faults ≡ old.disk_faults)
Counts receiving old new = (new.receive_faults ≡ one_more old.receive_faults)
    × (new.send_faults ≡ old.send_faults) × (new.disk_faults ≡ old.disk_faults)
Counts sending old new = (new.receive_faults ≡ old.receive_faults)
    × (new.send_faults ≡ one_more old.send_faults) × (new.disk_faults ≡ old.disk_faults)
Counts breaking old new = (new.receive_faults ≡ old.receive_faults) × (new.send_faults ≡ old.send_faults)
    × (old.disk_faults ≤ new.disk_faults)

-- what every stretch of calls on a connection keeps, on every form: it is open, as the disk is, the listener and
-- the disk's names are left alone, and the counts of failed calls show what failed
pub record Keeps (old new : Told) (failing : Failing) : Type 0 where
  pub connected : new.connected ≡ true
  pub opened : old.opened ≡ true → new.opened ≡ true
  pub folders : old.opened ≡ true → new.folders ≡ old.folders
  pub listener : new.listener ≡ old.listener
  pub receives : old.receive_faults ≤ new.receive_faults
  pub sends : old.send_faults ≤ new.send_faults
  pub counts : Counts failing old new

-- this session was done on the last connection, on which this failed
pub record Transfer (old new : Told) (s : Session) (failing : Failing) : Type 0 where
  pub took : (current new.connections).taken ≡ (current old.connections).taken ++ s.taken
  pub coming : (current old.connections).coming ≡ s.taken ++ (current new.connections).coming
  pub sent_now : (current new.connections).sent ≡ (current old.connections).sent ++ bytes_of s.acts
  pub waited : (current new.connections).waits ≡ (current old.connections).waits ++ s.waits
  pub read : new.readings ≡ old.readings ++ s.readings
  pub rest : others new.connections ≡ others old.connections
  pub fails : Fails failing (current old.connections) (current new.connections)
  pub does : Does old new s.before s.after s.acts failing

-- this held of the bytes that had been taken when a receive waited so, where nothing was sent
pub record TakenAt (start : Wait) (all : List ℕ) (Holds : List ℕ → Type 0) (wait : Wait) : Type 0 where
  pub till : List ℕ
  pub later : List ℕ
  pub cut : all ≡ till ++ later
  pub at : wait ≡ record { taken = start.taken + length till; sent = start.sent }
  pub holds : Holds till

-- only bytes were taken, and at each wait this held of those taken till then
pub record Takes (old new : Told) (got : List ℕ) (Holds : List ℕ → Type 0) (failing : Failing)
    : Type 0 where
  pub waits : List Wait
  pub transfer : (placed : Placed) → Transfer old new (taking placed got waits) failing
  pub each : All (TakenAt (wait_of (current old.connections)) got Holds) waits

-- they were taken behind those that were unread, of all of which this held at each wait
pub record TakesBehind (old new : Told) (unread now : List ℕ) (Holds : List ℕ → Type 0) (failing : Failing)
    : Type 0 where
  pub got : List ℕ
  pub behind : now ≡ unread ++ got
  pub takes : Takes old new got (λ front. Holds (unread ++ front)) failing

-- they were taken of those that were missing, of which some were at each wait, and so many still are
pub record TakesOf (old new : Told) (missing left : ℕ) (failing : Failing) : Type 0 where
  pub got : List ℕ
  pub sum : left + length got ≡ missing
  pub takes : Takes old new got (λ front. length front < missing) failing

-- they were taken of a body of which the first are here, and where none is missing, this is what is
-- kept of it
pub record TakesBody (old new : Told) (here kept : List ℕ) (missing left : ℕ) : Type 0 where
  pub rest : TakesOf old new missing left nothing
  pub keeps : left ≡ 0 → IsBodyKept kept (here ++ rest.got)

-- all these bytes were sent, and nothing else was done
abbrev pub SentAll : Told → Told → List ℕ → Type 0
SentAll old new bytes = (placed : Placed) → Transfer old new (acting placed placed (sends bytes)) nothing

-- a first part of them was sent, and then the send failed
abbrev pub SentPart : Told → Told → List ℕ → Type 0
SentPart old new bytes =
    (n : ℕ) × ((placed : Placed) → Transfer old new (acting placed placed (sends (take n bytes))) sending)
