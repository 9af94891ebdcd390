-- Bytes that are held: what a read puts behind them, and what is handed out of them.
use borrow.Rule.Slice.PartMut.{put_mid, post_of}
use Rattle.std.specs.Prelude.{◌≡◌, ℕ, ◌+◌, ◌-◌, ◌<◌, ◌≤◌, List, [], ◌++◌, take, drop, length, Option, Some, None, IfSome, MatchOption}
use Rattle.std.specs.Io.KnownBytes.{Appends, Consumes, IsAtEnd, Keeps}
use Rattle.std.proofs.Common.{sym, ◌∙◌, ap, subst, arith, append_assoc, append-nil, length-append, length-drop}
use Rattle.std.proofs.Math.Seq.{take-length}
use Rattle.std.proofs.lemmas.List.{take-append-drop, drop-drop, drop-take, drop_all, drop-append-le, length-take-le}
use Rattle.glacier_host.specs.Held.{to_come}
use Rattle.glacier_host.proofs.ListLemmas.{written, filled_more}

-- what came from the stream stands behind what was held, so nothing is lost
pub comes : (held bytes grown : List ℕ) (old new : Option (List ℕ)) → grown ≡ held ++ bytes → Consumes old new bytes
    → Keeps (to_come held old) (to_come grown new)
comes held bytes grown None new is took = tt
comes held bytes grown (Some xs) None is took = absurd took
comes held bytes grown (Some xs) (Some ys) is took =
    ap (λ (l : List ℕ). l ++ ys) is ∙ append_assoc held bytes ys ∙ ap (λ (l : List ℕ). held ++ l) (sym took)

-- what is handed out of the first bytes, and the others
pub handed : (xs into : List ℕ) (start count : ℕ) → take count into ≡ take count (drop start xs)
    → drop start xs ≡ take count into ++ drop (start + count) xs
handed xs into start count is =
    sym (take-append-drop count (drop start xs))
    ∙ ap (λ (l : List ℕ). l ++ drop count (drop start xs)) (sym is)
    ∙ ap (λ (l : List ℕ). take count into ++ l) (drop-drop count start xs)

-- the bytes of a read that gave some
pub reads_some : (old new : Option (List ℕ)) (came : Option ℕ) (count : ℕ) (into : List ℕ) → came ≡ Some count
    → MatchOption came (Keeps old new) (λ n. Consumes old new (take n into) × (n ≡ 0 → 0 < length into → IsAtEnd new))
    → Consumes old new (take count into)
reads_some old new came count into is reads =
    (subst (λ (c : Option ℕ). MatchOption c (Keeps old new) (λ n. Consumes old new (take n into) × (n ≡ 0 → 0 < length into → IsAtEnd new))) is reads).0

-- their bound
pub some_within : (came : Option ℕ) (count most : ℕ) → came ≡ Some count → IfSome came (λ n. n ≤ most) → count ≤ most
some_within came count most is within = subst (λ (c : Option ℕ). IfSome c (λ n. n ≤ most)) is within

-- a buffer of a vector that was filled behind the bytes that are held
pub refilled : (start end count len : ℕ) (old xs ys : List ℕ) → start ≤ end → end ≤ length xs
    → length ys ≡ length xs - end → count ≤ length ys → length xs ≡ len
    → drop start (take (end + count) (take len (put_mid end (length xs - end) xs ys ++ drop (length (put_mid end (length xs - end) xs ys)) old)))
    ≡ drop start (take end xs) ++ take count ys
refilled start end count len old xs ys order within size few long =
    let room : ℕ = length xs - end in
    let sum : end + room ≡ length xs = omega (arith, within) in
    let front : length (take end xs) ≡ end = length-take-le end xs within in
    let post : List ℕ = post_of end room xs in
    let none : post ≡ [] = drop_all room (drop end xs) (omega (arith, sum, length-drop end xs)) in
    let same : length (put_mid end room xs ys) ≡ len = omega
    (arith, front, size, sum, long, ap length none, length-append (take end xs) (ys ++ post), length-append ys post) in
    ap (λ (l : List ℕ). drop start (take (end + count) l)) (written len old (put_mid end room xs ys) same)
    ∙ ap (drop start) (filled_more end count room xs ys (omega (arith, within)) size (omega (arith, few, size)))
    ∙ drop-append-le start (take end xs) (take count ys) (omega (arith, front, order))

-- a stretch of a list, in the two orders
pub stretch : (start end : ℕ) (xs : List ℕ) → start ≤ end → take (end - start) (drop start xs) ≡ drop start (take end xs)
stretch start end xs order =
    let sum : start + (end - start) ≡ end = omega (arith, order) in
    sym (drop-take start (end - start) xs) ∙ ap (λ (n : ℕ). drop start (take n xs)) sum

-- no byte was written
pub appends_none : (old new : Option (List ℕ)) (bytes : List ℕ) → Appends old new (take 0 bytes) → Keeps old new
appends_none None new bytes wrote = tt
appends_none (Some xs) None bytes wrote = absurd wrote
appends_none (Some xs) (Some ys) bytes wrote = wrote ∙ append-nil xs

-- so many bytes as there are are all
pub appends_whole : (old new : Option (List ℕ)) (bytes : List ℕ) (done : ℕ) → done ≡ length bytes
    → Appends old new (take done bytes) → Appends old new bytes
appends_whole old new bytes done is_all =
    subst (λ (l : List ℕ). Appends old new l) (ap (λ (n : ℕ). take n bytes) is_all ∙ take-length bytes)

-- nothing was taken, and then nothing
pub keeps_twice : (first second third : Option (List ℕ)) → Keeps first second → Keeps second third → Keeps first third
keeps_twice None second third one two = tt
keeps_twice (Some xs) None third one two = absurd one
keeps_twice (Some xs) (Some ys) None one two = absurd two
keeps_twice (Some xs) (Some ys) (Some zs) one two = two ∙ one

-- nothing was taken, and then these bytes
pub keeps_then_takes : (first second third : Option (List ℕ)) (bytes : List ℕ) → Keeps first second
    → Consumes second third bytes → Consumes first third bytes
keeps_then_takes None second third bytes kept took = tt
keeps_then_takes (Some xs) None third bytes kept took = absurd kept
keeps_then_takes (Some xs) (Some ys) None bytes kept took = absurd took
keeps_then_takes (Some xs) (Some ys) (Some zs) bytes kept took = sym kept ∙ took
