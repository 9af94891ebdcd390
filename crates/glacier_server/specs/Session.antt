-- What was done on a connection, and at which points of it bytes were waited for.
use Rattle.std.specs.Prelude.{◌≡◌, ℕ, ◌+◌, List, [], ◌∷◌, ◌++◌, length, All}
use Rattle.glacier_disk.specs.Network.{Wait}
use Rattle.glacier_server.specs.Acts.{Act, bytes_of}
use Rattle.glacier_server.specs.Placed.{Placed}

-- the bytes that were taken, what was done, the readings of the clock, and what each receive waited
-- behind, from one state of the store to another
pub record Session : Type 0 where
  pub before : Placed
  pub after : Placed
  pub taken : List ℕ
  pub acts : List Act
  pub readings : List ℕ
  pub waits : List Wait

-- only bytes were taken
abbrev pub taking : Placed → List ℕ → List Wait → Session
taking placed bytes waits =
    record { before = placed; after = placed; taken = bytes; acts = []; readings = []; waits = waits }

-- only a reading was taken
abbrev pub reading : Placed → ℕ → Session
reading placed r =
    record { before = placed; after = placed; taken = []; acts = []; readings = r ∷ []; waits = [] }

-- only these acts were done
abbrev pub acting : Placed → Placed → List Act → Session
acting before after acts =
    record { before = before; after = after; taken = []; acts = acts; readings = []; waits = [] }

-- what is done for one message: these bytes are taken, a reading, and then these acts
abbrev pub answering : Placed → Placed → List ℕ → List Act → ℕ → List Wait → Session
answering before after taken acts r waits =
    record { before = before; after = after; taken = taken; acts = acts; readings = r ∷ []; waits = waits }

-- the list begins with these
abbrev pub IsFront : {A : Type 0} → List A → List A → Type 0
IsFront {A} front all = (rest : List A) × (all ≡ front ++ rest)

-- what had been done at one point of a session
pub record IsFrontOf (till all : Session) : Type 0 where
  pub before : till.before ≡ all.before
  pub taken : IsFront till.taken all.taken
  pub acts : IsFront till.acts all.acts
  pub readings : IsFront till.readings all.readings

-- how many bytes had been taken and sent behind a session that began at this point
abbrev pub wait_after : Wait → Session → Wait
wait_after start s =
    record { taken = start.taken + length s.taken; sent = start.sent + length (bytes_of s.acts) }

-- this held of what had been done when a receive waited so
pub record HeldAt (start : Wait) (all : Session) (Holds : Session → Type 0) (wait : Wait) : Type 0 where
  pub till : Session
  pub front : IsFrontOf till all
  pub at : wait ≡ wait_after start till
  pub holds : Holds till

-- it held at each wait of the session
abbrev pub HeldWaiting : Wait → Session → (Session → Type 0) → Type 0
HeldWaiting start s Holds = All (HeldAt start s Holds) s.waits
