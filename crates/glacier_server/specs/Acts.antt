-- What is done at a station, step by step, and a crash amid it.
use Rattle.std.specs.Prelude.{◌≡◌, ◌⊎◌, ℕ, ◌≤◌, List, [], ◌∷◌, ◌++◌, map, take}
use Rattle.glacier_disk.specs.Image.{Image}
use Rattle.glacier_disk.specs.Network.{on_last, sent_on}
use Rattle.glacier_disk.specs.Told.{Told}
use Rattle.glacier_replay.specs.Changes.{State, after_all}
use Rattle.glacier_replay.specs.Standing.{Stands}
use Rattle.glacier_vault.specs.Accounts.{AccountEvent}

-- a connection is accepted, a byte is sent on the last one, or an event is kept
pub data Act : Type 0 where
  accept : Act
  send : ℕ → Act
  keep : AccountEvent → Act

abbrev pub sends : List ℕ → List Act
sends bytes = map send bytes

abbrev pub keeps : List AccountEvent → List Act
keeps events = map keep events

-- the bytes that are sent
abbrev pub bytes_of : List Act → List ℕ
bytes_of [] = []
bytes_of (accept ∷ acts) = bytes_of acts
bytes_of (send b ∷ acts) = b ∷ bytes_of acts
bytes_of (keep h ∷ acts) = bytes_of acts

-- the events that are kept
abbrev pub events_in : List Act → List AccountEvent
events_in [] = []
events_in (accept ∷ acts) = events_in acts
events_in (send b ∷ acts) = events_in acts
events_in (keep h ∷ acts) = h ∷ events_in acts

-- the bytes sent on each connection, by those sent before
abbrev pub sent_by : List Act → List (List ℕ) → List (List ℕ)
sent_by [] sent = sent
sent_by (accept ∷ acts) sent = sent_by acts (sent ++ [] ∷ [])
sent_by (send b ∷ acts) sent = sent_by acts (on_last (b ∷ []) sent)
sent_by (keep h ∷ acts) sent = sent_by acts sent

-- the state after their events
abbrev pub after_acts : State → List Act → State
after_acts state acts = after_all state (events_in acts)

-- a crash behind the first k acts: just their bytes had been sent, and the image stands for the state after their
-- events
pub record StopsAfter (before : List (List ℕ)) (state : State) (acts : List Act) (i : Image) (sent : List (List ℕ))
    : Type 0 where
  pub k : ℕ
  pub bytes : sent ≡ sent_by (take k acts) before
  pub stands : Stands i (after_acts state (take k acts))

-- a crash at any moment of some calls, inside a call too, is one behind some of their acts, and so is one right after
-- the calls
pub record StopsAmid (old new : Told) (state : State) (acts : List Act) : Type 0 where
  pub later : old.moment ≤ new.moment
  pub now : (i : Image) → new.leaves i
      → StopsAfter (sent_on old.connections) state acts i (sent_on new.connections)
  -- for a run that began earlier
  pub each : (since : ℕ) (i : Image) (sent : List (List ℕ)) → since ≤ old.moment → new.left_with since i sent
      → old.left_with since i sent ⊎ StopsAfter (sent_on old.connections) state acts i sent
