-- How many bytes a receive of a station in memory takes.
use Rattle.std.specs.Prelude.{◌≡◌, ℕ, max, min, List, [], ◌∷◌, length, drop, Result, IfOk, OnOk, OnErr}
use Rattle.glacier_disk.specs.declared.memory.MemStation.{MemStation}
use Rattle.glacier_disk.specs.Memory.{connections_of, pieces_to_come}
use Rattle.glacier_disk.specs.Network.{Connection, OnLast}

-- at most the first of these bounds, of which 0 counts as 1; where there is none, all
abbrev pub bounded : List ℕ → ℕ → ℕ
bounded [] n = n
bounded (piece ∷ pieces) n = min (max piece 1) n

-- so many bytes are taken of what is coming, by these bounds and the room for them
abbrev pub TakesUpTo : List ℕ → ℕ → ℕ → Connection → Connection → Type 0
TakesUpTo pieces room n from to = n ≡ bounded pieces (min room (length from.coming))

-- a receive takes as many bytes as its place has room for, as are coming and as the next bound allows, and uses
-- that bound up; one that fails uses none up
pub record TakesPiece {E : Type 0} (room : ℕ) (old new : MemStation) (result : Result ℕ E) : Type 0 where
  pub size : IfOk result (λ n. OnLast (TakesUpTo (pieces_to_come old) room n) (connections_of old) (connections_of new))
  pub next : OnOk result (pieces_to_come new ≡ drop 1 (pieces_to_come old))
  pub kept : OnErr result (pieces_to_come new ≡ pieces_to_come old)
