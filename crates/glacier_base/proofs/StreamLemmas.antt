-- Reads and writes one after another, where the bytes are known.
use Rattle.std.specs.Prelude.{◌≡◌, ℕ, ◌+◌, ◌-◌, ◌<◌, ◌≤◌, List, ◌++◌, take, drop, length, Option, Some, None, Result, Ok, Err, IfOk}
use Rattle.std.specs.Io.KnownBytes.{Appends, Consumes, ReadConsumes}
use Rattle.std.proofs.Common.{sym, ◌∙◌, ap, subst, append_assoc}
use Rattle.std.proofs.lemmas.List.{take_rest, take-append-le}
use Rattle.std.proofs.Math.Seq.{take-add, take-length}

-- bytes, where they are known
abbrev pub Known : Type 0
Known = Option (List ℕ)

-- so many bytes as there are are all
pub appends_whole : (old new : Known) (bytes : List ℕ) (done : ℕ) → done ≡ length bytes →
    Appends old new (take done bytes) → Appends old new bytes
appends_whole old new bytes done is_all =
    subst (λ l. Appends old new l) (ap (λ n. take n bytes) is_all ∙ take-length bytes)

-- some bytes and then the first of the rest are appended
pub appends_next : (first second third : Known) (bytes : List ℕ) (done count : ℕ) →
    Appends first second (take done bytes) →
    Appends second third (take count (take (length bytes - done) (drop done bytes))) →
    Appends first third (take (done + count) bytes)
appends_next None second third bytes done count a b = tt
appends_next (Some xs) None third bytes done count a b = absurd a
appends_next (Some xs) (Some ys) None bytes done count a b = absurd b
appends_next (Some xs) (Some ys) (Some zs) bytes done count a b =
    let begun : List ℕ = take done bytes in
    let next : List ℕ = take count (drop done bytes) in
    b ∙ ap (λ (l : List ℕ). ys ++ take count l) (take_rest bytes done) ∙ ap (λ (l : List ℕ). l ++ next) a
    ∙ append_assoc xs begun next ∙ ap (λ (l : List ℕ). xs ++ l) (sym (take-add done count bytes))

-- a read into the front of a slice is one into the slice
pub reads_front : {E : Type 0} (old new : Known) (result : Result ℕ E) (front rest : List ℕ) →
    IfOk result (λ n. n ≤ length front) → (0 < length (front ++ rest) → 0 < length front) →
    ReadConsumes old new result front → ReadConsumes old new result (front ++ rest)
reads_front old new (Ok n) front rest bound room reads =
    let taken : take n front ≡ take n (front ++ rest) = sym (take-append-le n front rest bound) in
    (subst (λ l. Consumes old new l) taken reads.0, λ none some. reads.1 none (room some))
reads_front old new (Err e) front rest bound room reads = reads
