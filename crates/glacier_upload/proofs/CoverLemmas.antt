-- What the parts of an upload cover.
use Rattle.std.specs.Prelude.{◌≡◌, ℕ, suc, ◌≤◌, ◌<◌, ◌+◌, ◌*◌, ◌/◌, ◌%◌, Bool, true, false, cond, ◌||◌, List, [], ◌∷◌, length, Some, None, IfSome, nat_eq, nat_lt, sum_by}
use Rattle.std.specs.Cmp.{nat_cmp_total, eq_by_cmp_equiv}
use Rattle.std.specs.FinMap as map
use Rattle.std.specs.List.{AllByRecursion, list_any}
use Rattle.std.specs.List.Sorted.{IsStrictlySortedBy}
use Rattle.std.specs.Map.{keys_of, values_of}
use Rattle.std.specs.declared.cmp.Ordering.TheVariants.{Less}
use Rattle.std.specs.Ordering.{nat_cmp, eq_by_cmp, is_eq}
use Rattle.std.proofs.Common.{◌∙◌, ap, sym, refl, subst, arith, eq-eqb}
use Rattle.std.proofs.lemmas.Bool.{eqb-true}
use Rattle.std.proofs.lemmas.Bool.Decides.{nat_tests}
use Rattle.std.proofs.lemmas.Cmp.{ranked}
use Rattle.std.proofs.Math.Nat.{mul-le-mul_right}
use Rattle.std.proofs.lemmas.List.Concat.{length-flat_map}
use Rattle.std.proofs.lemmas.List.Sums.{sum_by-cons}
use Rattle.std.proofs.lemmas.Map.Keys.{sorted_head, sorted_tail}
use Rattle.glacier_base.proofs.Sorted.{rising, tied}
use Rattle.glacier_treehash.specs.Tree.{mib}
use Rattle.glacier_vault.specs.Lawful.{IsLawfulPart, IsLawfulUpload}
use Rattle.glacier_vault.specs.Totals.{need, blocks}
use Rattle.glacier_vault.specs.declared.archive.Part.{Part}
use Rattle.glacier_vault.specs.declared.archive.Upload.{Upload}
use Rattle.glacier_vault.proofs.PartSizeLemmas.{part_size-whole}
use Rattle.glacier_upload.specs.Completion.{covered_from, covered, has_gap, part_leaves}

less_lt : (x y : ℕ) → nat_cmp x y ≡ Less → x < y
less_lt x y e = ranked x y Less (sym e)

need-units : (units size : ℕ) → need (units * mib + size) ≡ need (units * mib) + need size
need-units units size = omega arith

-- nothing is found below all keys
pub absent_below : {X : Type 0} (q : ℕ) (fs : List (ℕ × X)) → AllByRecursion (λ y. nat_cmp q y ≡ Less) (keys_of fs) → map.find nat_cmp q fs ≡ None
absent_below q [] h = refl
absent_below q (f ∷ fs) h = ap (λ b. cond b (Some f.1) (map.find nat_cmp q fs)) (ap is_eq h.0) ∙ absent_below q fs h.1

-- where the keys rise, what is known of each look-up is known of each entry
pub each_entry : {X : Type 0} (P : ℕ → X → Type 0) (es : List (ℕ × X)) → IsStrictlySortedBy nat_cmp (keys_of es) → ((q : ℕ) → IfSome (map.find nat_cmp q es) (P q)) → AllByRecursion (λ e. P e.0 e.1) es
each_entry P [] sorted known = tt
each_entry {X} P (e ∷ es) sorted known = (
  subst (λ b. IfSome (cond b (Some e.1) (map.find nat_cmp e.0 es)) (P e.0)) ((eq_by_cmp_equiv nat_cmp_total).refl e.0) (known e.0),
  each_entry P es (sorted_tail nat_cmp e.0 (keys_of es) sorted) (λ q. later q (eq_by_cmp nat_cmp q e.0) refl (known q)),
)
  where
    later : (q : ℕ) (b : Bool) → eq_by_cmp nat_cmp q e.0 ≡ b → IfSome (cond b (Some e.1) (map.find nat_cmp q es)) (P q) → IfSome (map.find nat_cmp q es) (P q)
    later q true t h =
        let same : q ≡ e.0 = map.nat_cmp-IsAntisymmetric q e.0 (tied _ t) in
        subst (λ r. IfSome r (P q)) (sym (ap (λ k. map.find nat_cmp k es) same ∙ absent_below e.0 es (sorted_head nat_cmp e.0 (keys_of es) sorted))) tt
    later q false t h = h

pub each_part : (last : ℕ) (upload : Upload) → IsLawfulUpload last upload → AllByRecursion (λ e. IsLawfulPart upload.part_size e.0 e.1) (map.entries upload.parts)
each_part last upload lawful = each_entry (IsLawfulPart upload.part_size) (map.entries upload.parts) (rising nat_cmp (map.entries upload.parts) (map.entries_sorted upload.parts))
    (λ q. subst (λ r. IfSome r (IsLawfulPart upload.part_size q)) (map.get-entries upload.parts q) (lawful.parts q))

-- each part begins where the one before it ends
abbrev pub AreNext : ℕ → ℕ → List (ℕ × Part) → Type 0
AreNext part_size end [] = Unit {0}
AreNext part_size end (e ∷ es) = (e.0 * part_size ≡ end) × AreNext part_size (end + e.1.size) es

module _ (part_size : ℕ) where
  -- what is covered is never less than where it began
  pub covered-le : (end : ℕ) (es : List (ℕ × Part)) → end ≤ covered_from part_size end es
  covered-le end [] = omega arith
  covered-le end (e ∷ es) = at (nat_eq (e.0 * part_size) end) (covered-le (end + e.1.size) es)
    where
      at : (b : Bool) → end + e.1.size ≤ covered_from part_size (end + e.1.size) es → end ≤ cond b (covered_from part_size (end + e.1.size) es) end
      at true later = omega (arith, later)
      at false later = omega arith

  -- later parts begin behind the end of this one
  pub behind : (index end size : ℕ) (es : List (ℕ × Part)) → index * part_size ≡ end → size ≤ part_size → AllByRecursion (λ y. nat_cmp index y ≡ Less) (keys_of es)
      → AllByRecursion (λ e. end + size ≤ e.0 * part_size) es
  behind index end size [] at short above = tt
  behind index end size (e ∷ es) at short above = (
    (let lt : index < e.0 = less_lt index e.0 above.0 in further e.0 lt),
    behind index end size es at short above.1,
  )
    where
      further : (next : ℕ) → index < next → end + size ≤ next * part_size
      further next lt = omega (arith, mul-le-mul_right {m = suc index} {n = next} part_size lt, at, short)

  -- without a gap each part is next to the one before
  pub next_parts : (end : ℕ) (es : List (ℕ × Part)) → IsStrictlySortedBy nat_cmp (keys_of es) → AllByRecursion (λ e. IsLawfulPart part_size e.0 e.1) es
      → AllByRecursion (λ e. end ≤ e.0 * part_size) es
      → list_any (λ index. nat_lt (covered_from part_size end es) (index * part_size)) (keys_of es) ≡ false → AreNext part_size end es
  next_parts end [] sorted right low none = tt
  next_parts end (e ∷ es) sorted right low none = at (nat_eq (e.0 * part_size) end) refl none (next_parts (end + e.1.size) es (sorted_tail nat_cmp e.0 (keys_of es) sorted) right.1)
    where
      second : (a b : Bool) → (a || b) ≡ false → b ≡ false
      second true b h = cc
      second false b h = h

      first : (a b : Bool) → (a || b) ≡ false → a ≡ false
      first true b h = cc
      first false b h = refl

      at : (b : Bool) → nat_eq (e.0 * part_size) end ≡ b
          → list_any (λ index. nat_lt (cond b (covered_from part_size (end + e.1.size) es) end) (index * part_size)) (e.0 ∷ keys_of es) ≡ false
          → (AllByRecursion (λ f. end + e.1.size ≤ f.0 * part_size) es → list_any (λ index. nat_lt (covered_from part_size (end + e.1.size) es) (index * part_size)) (keys_of es) ≡ false → AreNext part_size (end + e.1.size) es)
          → (e.0 * part_size ≡ end) × AreNext part_size (end + e.1.size) es
      at true same none later =
          let here : e.0 * part_size ≡ end = eqb-true (e.0 * part_size) end same in
          (here, later (behind e.0 end e.1.size es here right.0.most (sorted_head nat_cmp e.0 (keys_of es) sorted)) (second _ _ none))
      at false apart none later =
          let no : nat_lt end (e.0 * part_size) ≡ false = first _ _ none in
          absurd (clash no apart low.0)
        where
          clash : nat_lt end (e.0 * part_size) ≡ false → nat_eq (e.0 * part_size) end ≡ false → end ≤ e.0 * part_size → ⊥
          clash a b c = grind (arith, nat_tests)

  module _ (whole : part_size % mib ≡ 0) where
    -- a part that begins at a multiple of the part size takes as many blocks more
    need-add : (index end size : ℕ) → index * part_size ≡ end → need (end + size) ≡ need end + need size
    need-add index end size at =
        let part : part_size ≡ part_size / mib * mib = omega (arith, whole) in
        let units : index * part_size ≡ index * (part_size / mib) * mib = ap (λ p. index * p) part ∙ omega arith in
        let is : end ≡ index * (part_size / mib) * mib = sym at ∙ units in
        rw is (need-units (index * (part_size / mib)) size)

    need-covered : (end : ℕ) (es : List (ℕ × Part)) → AreNext part_size end es → sum_by blocks.part (values_of es) + need end ≡ need (covered_from part_size end es)
    need-covered end [] next = omega arith
    need-covered end (e ∷ es) next =
        let here : nat_eq (e.0 * part_size) end ≡ true = eq-eqb (e.0 * part_size) end next.0 in
        let all : sum_by blocks.part (e.1 ∷ values_of es) + need end ≡ need (covered_from part_size (end + e.1.size) es) =
        omega (arith, sum_by-cons blocks.part e.1 (values_of es), need-covered (end + e.1.size) es next.1, need-add e.0 end e.1.size next.0) in
        all ∙ ap (λ b. need (cond b (covered_from part_size (end + e.1.size) es) end)) (sym here)

-- the leaves of lawful parts are as many as their blocks
leaves_each : (part_size : ℕ) (es : List (ℕ × Part)) → AllByRecursion (λ e. IsLawfulPart part_size e.0 e.1) es
    → sum_by (λ (part : Part). length part.leaves) (values_of es) ≡ sum_by blocks.part (values_of es)
leaves_each part_size [] right = refl
leaves_each part_size (e ∷ es) right =
    let here : length e.1.leaves ≡ need e.1.size = right.0.body.count in
    let goal : sum_by (λ (part : Part). length part.leaves) (e.1 ∷ values_of es) ≡ sum_by blocks.part (e.1 ∷ values_of es) =
    omega (arith, here, leaves_each part_size es right.1, sum_by-cons (λ (part : Part). length part.leaves) e.1 (values_of es), sum_by-cons blocks.part e.1 (values_of es)) in
    goal

module _ (last : ℕ) (upload : Upload) (lawful : IsLawfulUpload last upload) (no_gap : has_gap upload ≡ false) where
  low_from_zero : (es : List (ℕ × Part)) → AllByRecursion (λ e. 0 ≤ e.0 * upload.part_size) es
  low_from_zero [] = tt
  low_from_zero (e ∷ es) = (omega arith, low_from_zero es)

  -- the parts of an upload without a gap stand one after another
  pub are_next : AreNext upload.part_size 0 (map.entries upload.parts)
  are_next = next_parts upload.part_size 0 (map.entries upload.parts) (rising nat_cmp (map.entries upload.parts) (map.entries_sorted upload.parts)) (each_part last upload lawful)
      (low_from_zero (map.entries upload.parts)) no_gap

  -- they take as many blocks as the whole, and have as many leaves
  pub blocks_covered : sum_by blocks.part (map.values upload.parts) ≡ need (covered upload)
  blocks_covered = omega (arith, need-covered upload.part_size (part_size-whole upload.part_size lawful.part_size) 0 (map.entries upload.parts) are_next)

  pub leaves_covered : length (part_leaves upload) ≡ need (covered upload)
  leaves_covered = length-flat_map (λ (part : Part). part.leaves) (map.values upload.parts) ∙ leaves_each upload.part_size (map.entries upload.parts) (each_part last upload lawful) ∙ blocks_covered

-- what covers something has a part
pub some_parts : (part_size : ℕ) (es : List (ℕ × Part)) → 1 ≤ covered_from part_size 0 es → 1 ≤ length (values_of es)
some_parts part_size [] some = absurd (omega arith)
some_parts part_size (e ∷ es) some = omega arith
