-- What a reader's answer says of the bytes.
use Rattle.std.specs.Prelude.{◌≡◌, ℕ, List, Option, Some, None, Result, Ok, Err}
use Rattle.std.specs.Borrow.{Bor}
use Rattle.glacier_records.specs.declared.unread.Unread.{Unread}
use Rattle.glacier_records.specs.declared.unread.Unread.TheVariants as unread

-- the error says that nothing stands there, or that memory was wanting
abbrev pub Misses : {X : Type 0} → Unread → Option X → Type 0
Misses unread.Memory read = Unit {0}
Misses unread.NoValue read = read ≡ None

-- the answer, and what is left, is what stands at the front of the bytes
abbrev pub Takes : {X : Type 0} → Option (X × List ℕ) → Result X Unread → List ℕ → Type 0
Takes read (Ok x) rest = read ≡ Some (x, rest)
Takes read (Err e) rest = Misses e read

-- the answer is what all of the bytes spell
abbrev pub TakesAll : {X : Type 0} → Option X → Result X Unread → Type 0
TakesAll read (Ok x) = read ≡ Some x
TakesAll read (Err e) = Misses e read

-- an answer with the bytes that are lent
abbrev pub lent : {X E : Type 0} → Result (Bor X) E → Result X E
lent (Ok x) = Ok x.now
lent (Err e) = Err e
