-- A payload in its frame.
use Rattle.std.specs.Prelude.{ℕ, ◌-◌, List, length, take, drop}

-- the payload in a frame: all but the four bytes of its length and the closed gate
unfoldable pub payload_in : List ℕ → List ℕ
payload_in bytes = take (length bytes - 5) (drop 4 bytes)
