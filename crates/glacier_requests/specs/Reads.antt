-- What a reader's answer says.
use Rattle.std.specs.Prelude.{◌≡◌, ⊤, Option, Some, None, Result, Ok, Err}
use Rattle.glacier_vault.specs.declared.refusal.Refusal.{Refusal}
use Rattle.glacier_requests.specs.declared.unread.Unread.{Unread}
use Rattle.glacier_requests.specs.declared.unread.Unread.TheVariants.{Refused, Memory}

-- the answer is the one that is defined, unless memory was wanting
abbrev pub Reads : {A : Type 0} → Result A Refusal → Result A Unread → Type 0
Reads defined (Ok value) = defined ≡ Ok value
Reads defined (Err (Refused refusal)) = defined ≡ Err refusal
Reads defined (Err Memory) = ⊤

-- the same of a value as contracts see it
abbrev pub ReadsAs : {A B : Type 0} → (A → B) → Result B Refusal → Result A Unread → Type 0
ReadsAs shown defined (Ok value) = defined ≡ Ok (shown value)
ReadsAs shown defined (Err (Refused refusal)) = defined ≡ Err refusal
ReadsAs shown defined (Err Memory) = ⊤

-- it is this refusal, unless memory was wanting
abbrev pub Refuses : Refusal → Unread → Type 0
Refuses refusal (Refused given) = given ≡ refusal
Refuses refusal Memory = ⊤

-- what goes on with a value that was read
abbrev pub and_then : {A B : Type 0} → Result A Refusal → (A → Result B Refusal) → Result B Refusal
and_then (Ok value) next = next value
and_then (Err refusal) next = Err refusal

-- the value, or where there is none this refusal
abbrev pub or_else : {A : Type 0} → Refusal → Option A → Result A Refusal
or_else refusal None = Err refusal
or_else refusal (Some value) = Ok value
