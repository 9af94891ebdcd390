-- What is still to come on a connection, and what a read makes of it.
use Rattle.std.specs.Prelude.{◌≡◌, ◌<◌, ℕ, List, length, take, Option, Result, MatchResult, MatchOption}
use Rattle.std.specs.Io.KnownBytes.{Consumes, IsAtEnd, Keeps, prepend_known}

-- the bytes that are held, and then those that the stream has left, where these are known
abbrev pub to_come : List ℕ → Option (List ℕ) → Option (List ℕ)
to_come held left = prepend_known held left

-- a read that doesn't wait took the n bytes that it gave, none only at the end or with no room; else nothing was taken
abbrev pub ReadsNow : {E : Type 0} → Option (List ℕ) → Option (List ℕ) → Result (Option ℕ) E → List ℕ → Type 0
ReadsNow old new result into = MatchResult result
    (λ came. MatchOption came (Keeps old new)
    (λ n. Consumes old new (take n into) × (n ≡ 0 → 0 < length into → IsAtEnd new)))
    (λ _. Keeps old new)
