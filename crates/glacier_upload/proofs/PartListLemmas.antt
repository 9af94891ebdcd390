-- Lists of an upload's parts.
use Rattle.std.specs.Int.{div_ceil}
use Rattle.std.specs.Prelude.{◌≡◌, ℕ, suc, ◌+◌, ◌*◌, ◌≤◌, ◌<◌, Bool, true, false, cond, List, [], ◌∷◌, Option, min, filter, nat_le, map as each}
use Rattle.std.specs.List.{AllByRecursion}
use Rattle.std.specs.Map.{keys_of}
use Rattle.std.specs.Option.{option_map}
use Rattle.std.specs.Ordering.{nat_cmp, is_le}
use Rattle.std.proofs.Common.{◌∙◌, ap, refl, arith}
use Rattle.std.proofs.Math.Nat.{mul-le-mul_right}
use Rattle.std.proofs.lemmas.Bool.{leb-true, leb-false}
use Rattle.std.proofs.lemmas.Cmp.{ranked, by_ranked}
use Rattle.std.proofs.lemmas.Grind.{div_ceil_times}
use Rattle.glacier_vault.specs.Lawful.{IsLawfulPart}
use Rattle.glacier_vault.specs.declared.archive.Part.{Part}

-- a page of indices, and the first byte of the part behind it
abbrev pub shown : ℕ → List ℕ × Option ℕ → List ℕ × Option ℕ
shown part_size p = (p.0, option_map (λ index. index * part_size) p.1)

-- a number that isn't above another
not_above : (x y : ℕ) → x ≤ y → is_le (nat_cmp x y) ≡ true
not_above x y le = by_ranked (x < y) (x ≡ y) (y < x) (nat_cmp x y) (ranked x y _ refl) (λ e _. ap is_le e) (λ e _. ap is_le e) (λ _ l. absurd (omega arith))

-- one that is
above : (x y : ℕ) → y < x → is_le (nat_cmp x y) ≡ false
above x y lt = by_ranked (x < y) (x ≡ y) (y < x) (nat_cmp x y) (ranked x y _ refl) (λ _ l. absurd (omega arith)) (λ _ l. absurd (omega arith)) (λ e _. ap is_le e)

module _ (part_size from most : ℕ) (some : 0 < part_size) where
  -- the first index is at most one whose first byte isn't below the marker
  first_most : (index first : ℕ) → first * part_size < from + part_size → from ≤ index * part_size → first ≤ index
  first_most index first next late = at (nat_le first index) refl
    where
      at : (b : Bool) → nat_le first index ≡ b → first ≤ index
      at true le = leb-true first index le
      at false gt = absurd (let more : suc index * part_size ≤ first * part_size = mul-le-mul_right {m = suc index} {n = first} part_size (leb-false first index gt) in omega (arith, more, next, late))

  -- and above one whose first byte is
  first_above : (index first : ℕ) → from ≤ first * part_size → index * part_size < from → index < first
  first_above index first here early = at (nat_le first index) refl
    where
      at : (b : Bool) → nat_le first index ≡ b → index < first
      at true le = absurd (let less : first * part_size ≤ index * part_size = mul-le-mul_right {m = first} {n = index} part_size (leb-true first index le) in omega (arith, less, here, early))
      at false gt = leb-false first index gt

  -- from the first index on, and only from there, a part's first byte isn't below the marker
  from_first : (index : ℕ) → index < most → is_le (nat_cmp (min (div_ceil from part_size) most) index) ≡ nat_le from (index * part_size)
  from_first index low = at (nat_le from (index * part_size)) refl
    where
      at : (b : Bool) → nat_le from (index * part_size) ≡ b → is_le (nat_cmp (min (div_ceil from part_size) most) index) ≡ b
      at true late = not_above _ index (let le : div_ceil from part_size ≤ index = first_most index (div_ceil from part_size) (div_ceil_times from part_size some).1 (leb-true from (index * part_size) late) in omega (arith, le))
      at false early = above _ index (let lt : index < div_ceil from part_size = first_above index (div_ceil from part_size) (div_ceil_times from part_size some).0 (leb-false from (index * part_size) early) in omega (arith, lt, low))

  -- the keys of the entries from there are those that are listed
  pub keys_from : (es : List (ℕ × Part)) → AllByRecursion (λ e. e.0 < most) es
      → each (λ e. e.0) (filter (λ e. is_le (nat_cmp (min (div_ceil from part_size) most) e.0)) es) ≡ filter (λ index. nat_le from (index * part_size)) (keys_of es)
  keys_from [] low = refl
  keys_from (e ∷ es) low = ap (λ b. each (λ e. e.0) (cond b (e ∷ filter (λ e. is_le (nat_cmp (min (div_ceil from part_size) most) e.0)) es) (filter (λ e. is_le (nat_cmp (min (div_ceil from part_size) most) e.0)) es))) (from_first e.0 low.0)
      ∙ at (nat_le from (e.0 * part_size)) (keys_from es low.1)
    where
      at : (b : Bool) → each (λ e. e.0) (filter (λ e. is_le (nat_cmp (min (div_ceil from part_size) most) e.0)) es) ≡ filter (λ index. nat_le from (index * part_size)) (keys_of es)
          → each (λ e. e.0) (cond b (e ∷ filter (λ e. is_le (nat_cmp (min (div_ceil from part_size) most) e.0)) es) (filter (λ e. is_le (nat_cmp (min (div_ceil from part_size) most) e.0)) es))
          ≡ cond b (e.0 ∷ filter (λ index. nat_le from (index * part_size)) (keys_of es)) (filter (λ index. nat_le from (index * part_size)) (keys_of es))
      at true later = ap (λ is. e.0 ∷ is) later
      at false later = later

-- the indices of parts are low
pub low_entries : (part_size : ℕ) (es : List (ℕ × Part)) → AllByRecursion (λ e. IsLawfulPart part_size e.0 e.1) es → AllByRecursion (λ e. e.0 < 10000) es
low_entries part_size [] right = tt
low_entries part_size (e ∷ es) right = (omega (arith, right.0.low), low_entries part_size es right.1)

-- and so are those of some of them
pub low_filter : (test : ℕ × Part → Bool) (es : List (ℕ × Part)) → AllByRecursion (λ e. e.0 < 10000) es → AllByRecursion (λ e. e.0 < 10000) (filter test es)
low_filter test [] low = tt
low_filter test (e ∷ es) low = at (test e) (low_filter test es low.1)
  where
    at : (b : Bool) → AllByRecursion (λ e. e.0 < 10000) (filter test es) → AllByRecursion (λ e. e.0 < 10000) (cond b (e ∷ filter test es) (filter test es))
    at true later = (low.0, later)
    at false later = later
