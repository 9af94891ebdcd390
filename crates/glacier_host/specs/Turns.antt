-- What is received on the connection that is handed out.
use Rattle.std.specs.Prelude.{◌≡◌, ◌⊎◌, ◌<◌, ℕ, List, length, take, Option, Some, None, Result, MatchResult, MatchOption}
use Rattle.std.specs.Option.{option_and_then}
use Rattle.std.specs.Io.KnownBytes.{Consumes, IsAtEnd, Keeps}
use Rattle.glacier_host.specs.declared.connection.Connection.{Connection}
use Rattle.glacier_host.specs.declared.course.Course.{Course}
use Rattle.glacier_host.specs.declared.course.Course.TheVariants.{Between}
use Rattle.glacier_host.specs.Courses.{GoesOn, IsWhole}
use Rattle.glacier_host.specs.Held.{to_come}

-- the bytes that are still to come on a connection, by what tells those that its stream has left
abbrev pub coming : {S : Type 0} → (S → Option (List ℕ)) → Connection S → Option (List ℕ)
coming remaining connection = to_come connection.held (remaining connection.stream)

-- the bytes that were sent on it, by what tells those that its stream took
abbrev pub sent_on : {S : Type 0} → (S → Option (List ℕ)) → Connection S → Option (List ℕ)
sent_on contents connection = contents connection.stream

-- where in a message the bytes end that were handed out on it
abbrev pub course_of_turn : {S : Type 0} → Option (Connection S) → Course
course_of_turn None = Between
course_of_turn (Some connection) = connection.course

-- what is still to come on a connection, and where in a message that begins
pub record Place : Type 0 where
  pub coming : Option (List ℕ)
  pub course : Course

abbrev pub place : {S : Type 0} → (S → Option (List ℕ)) → Connection S → Place
place remaining connection = record { coming = coming remaining connection; course = connection.course }

-- the same of the connection that is handed out, if one is
abbrev pub place_of_turn : {S : Type 0} → (S → Option (List ℕ)) → Option (Connection S) → Place
place_of_turn remaining turn = record { coming = option_and_then (coming remaining) turn; course = course_of_turn turn }

-- none are handed out only at the end, or where nothing of a message is left and nothing of the next was begun
abbrev pub EndsTurn : Course → Place → Type 0
EndsTurn course new = IsAtEnd new.coming ⊎ (IsWhole course × (new.course ≡ Between))

-- the next n bytes are handed out, and the place in the message moves on by as many
abbrev pub MovesOn : Place → Place → List ℕ → ℕ → Type 0
MovesOn old new into n =
    Consumes old.coming new.coming (take n into)
    × (n ≡ 0 → 0 < length into → EndsTurn old.course new) × GoesOn old.course new.course n

-- no byte was taken
abbrev pub Rests : Place → Place → Type 0
Rests old new = Keeps old.coming new.coming × GoesOn old.course new.course 0

-- so many bytes are handed out as the answer says; where the call failed none are
abbrev pub HandsOut : {E : Type 0} → Place → Place → Result ℕ E → List ℕ → Type 0
HandsOut old new result into = MatchResult result (MovesOn old new into) (λ _. Rests old new)

-- the same, or none are handed out yet
abbrev pub MayHandOut : {E : Type 0} → Place → Place → Result (Option ℕ) E → List ℕ → Type 0
MayHandOut old new result into =
    MatchResult result (λ came. MatchOption came (Rests old new) (MovesOn old new into)) (λ _. Rests old new)
