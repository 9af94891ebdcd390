-- Facts on stretches of lists.
use borrow.Rule.Slice.PartMut.{put_mid, post_of}
use Rattle.std.proofs.Common.{◌≡◌, ℕ, ◌+◌, ◌-◌, ◌≤◌, List, [], ◌++◌, length, take, drop, sym, ap, ◌∙◌, arith, length-append, length-drop, append-nil}
use Rattle.std.proofs.Math.Seq.{paste, drop-append-add}
use Rattle.std.proofs.lemmas.List.{drop_all, length-take-le, drop-take, same_lists, places, take-append-le, take_all}
use Rattle.std.proofs.lemmas.List.Edits.{take-paste}

-- a stretch that was copied to the front
pub moved : (d new : List ℕ) (s e : ℕ) → s ≤ e → e ≤ length d → new ≡ paste d 0 (drop s d) (e - s)
    → take (e - s) new ≡ drop s (take e d)
moved d new s e le within is =
    let n : ℕ = e - s in
    let at : n ≡ 0 + n = omega arith in
    let sum : s + n ≡ e = omega arith in
    ap (λ (l : List ℕ). take n l) is ∙ ap (λ (k : ℕ). take k (paste d 0 (drop s d) n)) at
    ∙ take-paste d 0 (drop s d) n (omega arith) (omega (arith, length-drop s d))
    ∙ sym (drop-take s n d) ∙ ap (λ (k : ℕ). drop s (take k d)) sum

-- what is taken behind a front
pub take_behind : (n m : ℕ) (xs : List ℕ) → n + m ≤ length xs → take (n + m) xs ≡ take n xs ++ take m (drop n xs)
take_behind n m xs within = same_lists _ _ (grind (arith, places)) (λ k d h. grind (arith, places))

-- a vector that was written whole
pub written : (len : ℕ) (old new : List ℕ) → length new ≡ len → take len (new ++ drop (length new) old) ≡ new
written len old new is = take-append-le len new _ (omega (arith, is)) ∙ take_all len new (omega (arith, is))

-- a buffer that was filled behind what was kept, as a vector shows it
pub filled : (n m len : ℕ) (old new unread : List ℕ) → length new ≡ len → n + m ≤ length new → take n new ≡ unread
    → take (n + m) (take len (new ++ drop (length new) old)) ≡ unread ++ take m (drop n new)
filled n m len old new unread is within kept =
    ap (λ (l : List ℕ). take (n + m) l) (written len old new is) ∙ take_behind n m new within
    ∙ ap (λ (l : List ℕ). l ++ take m (drop n new)) kept

-- the end of a list that was written
pub tail_put : (a k : ℕ) (xs ys : List ℕ) → a + k ≡ length xs → length ys ≡ k → drop a (put_mid a k xs ys) ≡ ys
tail_put a k xs ys sum size =
    let front : length (take a xs) ≡ a = length-take-le a xs (omega (arith, sum)) in
    let none : post_of a k xs ≡ [] = drop_all k (drop a xs) (omega (arith, sum, length-drop a xs)) in
    ap (λ (n : ℕ). drop n (put_mid a k xs ys)) (omega (arith, front))
    ∙ drop-append-add (take a xs) (ys ++ post_of a k xs) 0 ∙ ap (λ (l : List ℕ). ys ++ l) none ∙ append-nil ys

-- a buffer that was written behind its first bytes
pub filled_more : (n m k : ℕ) (xs ys : List ℕ) → n + k ≤ length xs → length ys ≡ k → m ≤ k
    → take (n + m) (put_mid n k xs ys) ≡ take n xs ++ take m ys
filled_more n m k xs ys within is few =
    let front : length (take n xs) ≡ n = length-take-le n xs (omega (arith, within)) in
    let post : List ℕ = post_of n k xs in
    let all : List ℕ = put_mid n k xs ys in
    take_behind n m all (omega (arith, front, is, few, length-append (take n xs) (ys ++ post), length-append ys post))
    ∙ ap (λ (l : List ℕ). l ++ take m (drop n all)) (take-append-le n (take n xs) (ys ++ post) (omega (arith, front))
    ∙ take_all n (take n xs) (omega (arith, front)))
    ∙ ap (λ (j : ℕ). take n xs ++ take m (drop j all)) (omega (arith, front))
    ∙ ap (λ (l : List ℕ). take n xs ++ take m l) (drop-append-add (take n xs) (ys ++ post) 0)
    ∙ ap (λ (l : List ℕ). take n xs ++ l) (take-append-le m ys post (omega (arith, is, few)))
