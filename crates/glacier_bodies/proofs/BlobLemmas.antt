-- Blobs, before and after a write.
use Rattle.std.proofs.Common.{◌≡◌, ℕ, suc, ◌+◌, ◌-◌, ◌*◌, ◌<◌, ◌≤◌, min, Bool, true, false, ◌||◌, nat_eq, List, [], ◌∷◌, ◌++◌, length, take, drop, refl, sym, ◌∙◌, ap, inl, inr, arith}
use Rattle.std.proofs.lemmas.Bool.Decides.{leb_tells, eqb_tells, nat_tests}
use Rattle.std.proofs.lemmas.List.{take_all, drop_all, take-take, drop-drop, length-append, length-take, length-drop, same_lists, places, take-append-le, drop-append-le, nil_from_length}
use Rattle.glacier_disk.specs.declared.area.Area.TheVariants.{Blobs}
use Rattle.glacier_disk.specs.Image.{Image}
use Rattle.glacier_extents.specs.declared.run.Run.{Run}
use Rattle.glacier_extents.specs.Places.{block_size, HasAt, IsClear, WritesOnly}
use Rattle.glacier_extents.specs.Runs.{in_run, has_block, block_count, block_at, AreDistinct}
use Rattle.glacier_bodies.specs.Blobs.{Holds, IsApart}

-- bytes behind bytes
pub at_joined : (place : ℕ) (xs ys content : List ℕ) → HasAt place xs content → HasAt (place + length xs) ys content
    → HasAt place (xs ++ ys) content
at_joined place xs ys content first second =
    let m : ℕ = length xs in
    let n : ℕ = length ys in
    let rest : List ℕ = drop place content in
    let further : drop m rest ≡ drop (place + m) content = drop-drop m place content in
    let cut : take (m + n) rest ≡ take m rest ++ take n (drop m rest) = same_lists _ _ (grind (arith, places)) (λ k d h. grind (arith, places)) in
    rw (length-append xs ys, cut, further, first, second) refl

-- a front of them
pub at_front : (place : ℕ) (xs ys content : List ℕ) → HasAt place (xs ++ ys) content → HasAt place xs content
at_front place xs ys content has =
    let m : ℕ = length xs in
    let n : ℕ = length (xs ++ ys) in
    let long : n ≡ m + length ys = length-append xs ys in
    let shorter : take m (take n (drop place content)) ≡ take m (drop place content) = take-take m n (drop place content) (omega (arith, long)) in
    let front : take m (xs ++ ys) ≡ xs = take-append-le m xs ys (omega arith) ∙ take_all m xs (omega arith) in
    sym shorter ∙ ap (take m) has ∙ front

-- some bytes end within the content
pub at_within : (place : ℕ) (bytes content : List ℕ) → 0 < length bytes → HasAt place bytes content
    → place + length bytes ≤ length content
at_within place bytes content some has =
    let n : ℕ = length bytes in
    let long : min n (length content - place) ≡ n = ap (min n) (sym (length-drop place content)) ∙ sym (length-take n (drop place content)) ∙ ap length has in
    omega (arith, long)

-- a content holds no bytes
pub holds_nothing : (runs : List Run) (content : List ℕ) → Holds runs [] content
holds_nothing [] content = refl
holds_nothing (run ∷ runs) content =
    let front : take (run.count * block_size) [] ≡ [] = take_all {A = ℕ} (run.count * block_size) [] (omega arith) in
    let back : drop (run.count * block_size) [] ≡ [] = drop_all {X = ℕ} (run.count * block_size) [] (omega arith) in
    (rw front refl, rw back (holds_nothing runs content))

-- the block at a place is one of the runs'
pub block_at_has : (runs : List Run) (k : ℕ) → k < block_count runs → has_block runs (block_at runs k) ≡ true
block_at_has [] k h = absurd (omega arith)
block_at_has (run ∷ runs) k h =
    elim (leb_tells (suc k) run.count) [
      | inl low ↦ rw low.0 (grind (arith, nat_tests))
      | inr high ↦ (let rest = block_at_has runs (k - run.count) (omega (arith, high.1)) in
          rw (high.0, rest) (grind (arith, nat_tests)))
    ]

-- a front of what is held
pub holds_front : (runs : List Run) (xs ys content : List ℕ) → Holds runs (xs ++ ys) content → Holds runs xs content
holds_front [] xs ys content has =
    let none : length xs + length ys ≡ 0 = sym (length-append xs ys) ∙ ap length has in
    nil_from_length xs (omega (arith, none))
holds_front (run ∷ runs) xs ys content has =
    let n : ℕ = run.count * block_size in
    elim (leb_tells n (length xs)) [
      | inl long ↦ (let front : take n (xs ++ ys) ≡ take n xs = take-append-le n xs ys long.1 in
          let back : drop n (xs ++ ys) ≡ drop n xs ++ ys = drop-append-le n xs ys long.1 in
          (rw front at has.0, holds_front runs (drop n xs) ys content (rw back at has.1)))
      | inr short ↦ (let all : take n xs ≡ xs = take_all n xs (omega (arith, short.1)) in
          let none : drop n xs ≡ [] = drop_all n xs (omega (arith, short.1)) in
          let cut : take n (xs ++ ys) ≡ xs ++ take (n - length xs) ys = same_lists _ _ (grind (arith, places)) (λ k d h. grind (arith, places)) in
          (rw all (at_front (run.first * block_size) xs (take (n - length xs) ys) content (rw cut at has.0)), rw none (holds_nothing runs content)))
    ]

-- bytes behind what is held, in the block at their place
pub holds_more : (runs : List Run) (k : ℕ) (xs piece content : List ℕ) → length xs ≡ k * block_size
    → length piece ≤ block_size → k < block_count runs
    → HasAt (block_at runs k * block_size) piece content → Holds runs xs content → Holds runs (xs ++ piece) content
holds_more [] k xs piece content long small inside has held = absurd (omega arith)
holds_more (run ∷ runs) k xs piece content long small inside has held =
    let n : ℕ = run.count * block_size in
    elim (leb_tells (suc k) run.count) [
      | inl low ↦ (let here : block_at (run ∷ runs) k ≡ run.first + k = grind (arith, low.0) in
          let all : take n (xs ++ piece) ≡ xs ++ piece = take_all n (xs ++ piece) (omega (arith, length-append xs piece, low.1)) in
          let none : drop n (xs ++ piece) ≡ [] = drop_all n (xs ++ piece) (omega (arith, length-append xs piece, low.1)) in
          let xs_all : take n xs ≡ xs = take_all n xs (omega (arith, low.1)) in
          let place : block_at (run ∷ runs) k * block_size ≡ run.first * block_size + length xs = omega (arith, here, long) in
          (rw all (at_joined (run.first * block_size) xs piece content (rw xs_all at held.0) (rw place at has)), rw none (holds_nothing runs content)))
      | inr high ↦ (let here : block_at (run ∷ runs) k ≡ block_at runs (k - run.count) = grind (arith, high.0) in
          let far : n ≤ length xs = omega (arith, high.1) in
          let front : take n (xs ++ piece) ≡ take n xs = take-append-le n xs piece far in
          let back : drop n (xs ++ piece) ≡ drop n xs ++ piece = drop-append-le n xs piece far in
          (rw front held.0, rw back (holds_more runs (k - run.count) (drop n xs) piece content (omega (arith, length-drop n xs, high.1)) small (omega (arith, high.1)) (rw here at has) held.1)))
    ]

-- a stretch of a run is clear of blocks that aren't the run's
clear_of_run : (own : ℕ → Bool) (run : Run) (n : ℕ) → ((b : ℕ) → own b ≡ true → in_run run b ≡ false)
    → n ≤ run.count * block_size → IsClear own (run.first * block_size) n
clear_of_run own run n apart small b is =
    elim (leb_tells run.first b) [
      | inl low ↦ (elim (leb_tells (suc b) (run.first + run.count)) [
        | inl inside ↦ absurd (let out = apart b is in grind (arith, low.0, inside.0, out))
        | inr past ↦ inl (omega (arith, past.1))
      ])
      | inr before ↦ inr (omega (arith, before.1))
    ]

-- bytes that are held below the old end stay, where their blocks aren't written
stretch_stays : (own : ℕ → Bool) (run : Run) (bytes : List ℕ) (reads : List ℕ) (old new : Image)
    → WritesOnly own (length reads) old new
    → ((b : ℕ) → own b ≡ true → in_run run b ≡ false) → length bytes ≤ run.count * block_size
    → HasAt (run.first * block_size) bytes reads
    → HasAt (run.first * block_size) bytes (old Blobs) → HasAt (run.first * block_size) bytes (new Blobs)
stretch_stays own run [] reads old new written apart small read has = refl
stretch_stays own run (x ∷ bytes) reads old new written apart small read has =
    written.stays (run.first * block_size) (x ∷ bytes) (at_within (run.first * block_size) (x ∷ bytes) reads (omega arith) read)
    (clear_of_run own run (length (x ∷ bytes)) apart small) has

-- of two tests one holds at most, if neither holds
or_false : (a b : Bool) → (a || b) ≡ false → (a ≡ false) × (b ≡ false)
or_false true b h = cc
or_false false b h = (refl, h)

pub apart_first : (own : ℕ → Bool) (run : Run) (runs : List Run) → IsApart own (run ∷ runs) → (b : ℕ) → own b ≡ true
    → in_run run b ≡ false
apart_first own run runs apart b is = (or_false (in_run run b) (has_block runs b) (apart b is)).0

pub apart_rest : (own : ℕ → Bool) (run : Run) (runs : List Run) → IsApart own (run ∷ runs) → IsApart own runs
apart_rest own run runs apart b is = (or_false (in_run run b) (has_block runs b) (apart b is)).1

-- a blob stays where none of its blocks is written
pub holds_after : (own : ℕ → Bool) (runs : List Run) (bytes reads : List ℕ) (old new : Image)
    → WritesOnly own (length reads) old new → IsApart own runs
    → Holds runs bytes reads → Holds runs bytes (old Blobs) → Holds runs bytes (new Blobs)
holds_after own [] bytes reads old new written apart read held = held
holds_after own (run ∷ runs) bytes reads old new written apart read held =
    let n : ℕ = run.count * block_size in (
      stretch_stays own run (take n bytes) reads old new written (apart_first own run runs apart) (omega (arith, length-take n bytes)) read.0 held.0,
      holds_after own runs (drop n bytes) reads old new written (apart_rest own run runs apart) read.1 held.1,
    )

-- what the test of two numbers tells
pub nat_same : (a b : ℕ) → nat_eq a b ≡ true → a ≡ b
nat_same a b is = elim (eqb_tells a b) [ inl same ↦ same.1 | inr other ↦ (let no : nat_eq a b ≡ false = other.0 in cc) ]

-- bytes before a block that is written stay
front_stays : (block place : ℕ) (bytes : List ℕ) (old new : Image)
    → WritesOnly (nat_eq block) (length (old Blobs)) old new → place + length bytes ≤ block * block_size
    → HasAt place bytes (old Blobs) → HasAt place bytes (new Blobs)
front_stays block place [] old new written below has = refl
front_stays block place (x ∷ bytes) old new written below has =
    written.stays place (x ∷ bytes) (at_within place (x ∷ bytes) (old Blobs) (omega arith) has)
    (λ b is. (let same : block ≡ b = nat_same block b is in inl (omega (arith, same, below)))) has

-- a block of one run isn't one of the runs behind it
not_of_run : (run : Run) (runs : List Run) → ((b : ℕ) → in_run run b ≡ true → has_block runs b ≡ false) → (b : ℕ)
    → has_block runs b ≡ true → in_run run b ≡ false
not_of_run run runs distinct b is = elim (in_run run b) as (λ v. in_run run b ≡ v → v ≡ false) [ true ↦ (λ e. (let out : has_block runs b ≡ false = distinct b e in cc)) | false ↦ (λ e. refl) ] refl

-- what stands before a block of the blob's own stays, while that is written
pub holds_before : (high : ℕ) (runs : List Run) (k : ℕ) (xs : List ℕ) (old new : Image) → AreDistinct high runs
    → WritesOnly (nat_eq (block_at runs k)) (length (old Blobs)) old new
    → length xs ≡ k * block_size → k < block_count runs → Holds runs xs (old Blobs) → Holds runs xs (new Blobs)
holds_before high [] k xs old new distinct written long inside held = absurd (omega arith)
holds_before high (run ∷ runs) k xs old new distinct written long inside held =
    let n : ℕ = run.count * block_size in
    elim (leb_tells (suc k) run.count) [
      | inl low ↦ (let here : block_at (run ∷ runs) k ≡ run.first + k = grind (arith, low.0) in
          let all : take n xs ≡ xs = take_all n xs (omega (arith, low.1)) in
          let none : drop n xs ≡ [] = drop_all n xs (omega (arith, low.1)) in
          let has : HasAt (run.first * block_size) xs (old Blobs) = rw all at held.0 in
          let stays : HasAt (run.first * block_size) xs (new Blobs) =
          front_stays (block_at (run ∷ runs) k) (run.first * block_size) xs old new written (omega (arith, here, long)) has in
          (rw all stays, rw none (holds_nothing runs (new Blobs))))
      | inr high' ↦ (let here : block_at (run ∷ runs) k ≡ block_at runs (k - run.count) = grind (arith, high'.0) in
          let its : has_block runs (block_at runs (k - run.count)) ≡ true = block_at_has runs (k - run.count) (omega (arith, high'.1)) in
          let rest : WritesOnly (nat_eq (block_at runs (k - run.count))) (length (old Blobs)) old new = rw here at written in
          let apart : (b : ℕ) → nat_eq (block_at runs (k - run.count)) b ≡ true → in_run run b ≡ false =
          λ b is. not_of_run run runs distinct.2 b (rw (nat_same (block_at runs (k - run.count)) b is) at its) in (
            stretch_stays (nat_eq (block_at runs (k - run.count))) run (take n xs) (old Blobs) old new rest apart (omega (arith, length-take n xs)) held.0 held.0,
            holds_before high runs (k - run.count) (drop n xs) old new distinct.3 rest (omega (arith, length-drop n xs, high'.1)) (omega (arith, high'.1)) held.1,
          ))
    ]
