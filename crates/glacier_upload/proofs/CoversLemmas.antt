-- Parts that hold just the bytes below a size, and no other.
use Rattle.std.specs.Prelude.{◌≡◌, ◌↔◌, ℕ, ◌≤◌, ◌<◌, ◌+◌, ◌-◌, ◌*◌, ◌⊎◌, Bool, true, false, cond, ◌||◌, not, List, [], ◌∷◌, Some, None, nat_eq, nat_lt}
use Rattle.std.specs.Cmp.{nat_cmp_total, eq_by_cmp_equiv}
use Rattle.std.specs.FinMap as map
use Rattle.std.specs.List.{AllByRecursion, list_any}
use Rattle.std.specs.List.Sorted.{IsStrictlySortedBy}
use Rattle.std.specs.Map.{keys_of}
use Rattle.std.specs.Ordering.{nat_cmp, eq_by_cmp}
use Rattle.std.proofs.Common.{◌∙◌, ap, sym, refl, subst, arith, inl, inr, eq-eqb}
use Rattle.std.proofs.lemmas.Bool.{cases_lt}
use Rattle.std.proofs.lemmas.Bool.Decides.{nat_tests}
use Rattle.std.proofs.lemmas.Map.Keys.{sorted_head, sorted_tail}
use Rattle.glacier_base.proofs.Sorted.{rising, tied}
use Rattle.glacier_vault.specs.Lawful.{IsLawfulPart, IsLawfulUpload}
use Rattle.glacier_vault.specs.declared.archive.Part.{Part}
use Rattle.glacier_vault.specs.declared.archive.Upload.{Upload}
use Rattle.glacier_vault.specs.declared.refusal.Refusal.TheVariants.{Gap, SizeDiffers}
use Rattle.glacier_upload.specs.Completion.{covered_from, covered, has_gap, cover_refusal}
use Rattle.glacier_upload.specs.Covers.{HoldsByte, HoldsJust}
use Rattle.glacier_upload.proofs.CompletionRow.{covers_just}
use Rattle.glacier_upload.proofs.CoverLemmas.{AreNext, each_part, covered-le, behind, are_next, absent_below}

-- one of the parts of a list holds the byte
abbrev AnyHolds : ℕ → List (ℕ × Part) → ℕ → Type 0
AnyHolds part_size [] byte = ⊥
AnyHolds part_size (e ∷ es) byte = ((e.0 * part_size ≤ byte) × (byte < e.0 * part_size + e.1.size)) ⊎ AnyHolds part_size es byte

module _ (part_size : ℕ) where
  -- what holds a byte begins at it or before
  begins : (low byte : ℕ) (es : List (ℕ × Part)) → AllByRecursion (λ e. low ≤ e.0 * part_size) es → AnyHolds part_size es byte → low ≤ byte
  begins low byte [] lows h = absurd h
  begins low byte (e ∷ es) lows (inl held) = omega (arith, lows.0, held.0)
  begins low byte (e ∷ es) lows (inr later) = begins low byte es lows.1 later

  -- parts one after another hold just what they cover
  held_covered : (end byte : ℕ) (es : List (ℕ × Part)) → AreNext part_size end es → AnyHolds part_size es byte → (end ≤ byte) × (byte < covered_from part_size end es)
  held_covered end byte [] next h = absurd h
  held_covered end byte (e ∷ es) next h =
      let here : nat_eq (e.0 * part_size) end ≡ true = eq-eqb (e.0 * part_size) end next.0 in
      let more = covered-le part_size (end + e.1.size) es in
      let inside : (end ≤ byte) × (byte < covered_from part_size (end + e.1.size) es) = elim h [
        | inl held ↦ (omega (arith, held.0, next.0), omega (arith, held.1, next.0, more))
        | inr later ↦ (let rest = held_covered (end + e.1.size) byte es next.1 later in (omega (arith, rest.0), rest.1))
      ] in
      (inside.0, subst (λ b. byte < cond b (covered_from part_size (end + e.1.size) es) end) (sym here) inside.1)

  covered_held : (end byte : ℕ) (es : List (ℕ × Part)) → AreNext part_size end es → end ≤ byte → byte < covered_from part_size end es → AnyHolds part_size es byte
  covered_held end byte [] next low high = absurd (omega arith)
  covered_held end byte (e ∷ es) next low high =
      let here : nat_eq (e.0 * part_size) end ≡ true = eq-eqb (e.0 * part_size) end next.0 in
      let below : byte < covered_from part_size (end + e.1.size) es = subst (λ b. byte < cond b (covered_from part_size (end + e.1.size) es) end) here high in
      elim (cases_lt byte (end + e.1.size)) [
        | inl lt ↦ inl (omega (arith, next.0), omega (arith, next.0))
        | inr ge ↦ inr (covered_held (end + e.1.size) byte es next.1 ge below)
      ]

  -- nothing begins behind what they cover
  none_behind : (end most : ℕ) (es : List (ℕ × Part)) → AreNext part_size end es → covered_from part_size end es ≤ most → list_any (λ index. nat_lt most (index * part_size)) (keys_of es) ≡ false
  none_behind end most [] next few = refl
  none_behind end most (e ∷ es) next few =
      let here : nat_eq (e.0 * part_size) end ≡ true = eq-eqb (e.0 * part_size) end next.0 in
      let below : covered_from part_size (end + e.1.size) es ≤ most = subst (λ b. cond b (covered_from part_size (end + e.1.size) es) end ≤ most) here few in
      let more = covered-le part_size (end + e.1.size) es in
      let first : e.0 * part_size ≤ most = omega (arith, next.0) in
      ap (λ b. b || list_any (λ index. nat_lt most (index * part_size)) (keys_of es)) (no most (e.0 * part_size) first) ∙ none_behind (end + e.1.size) most es next.1 below
    where
      no : (a b : ℕ) → b ≤ a → nat_lt a b ≡ false
      no a b le = grind (arith, nat_tests)

  -- parts that hold just the bytes up to a size stand one after another
  just_next : (end size : ℕ) (es : List (ℕ × Part)) → IsStrictlySortedBy nat_cmp (keys_of es) → AllByRecursion (λ e. IsLawfulPart part_size e.0 e.1) es → AllByRecursion (λ e. end ≤ e.0 * part_size) es
      → end ≤ size → ((byte : ℕ) → AnyHolds part_size es byte → byte < size) → ((byte : ℕ) → end ≤ byte → byte < size → AnyHolds part_size es byte)
      → AreNext part_size end es × (covered_from part_size end es ≡ size)
  just_next end size [] sorted right low le held holds = elim (cases_lt end size) [ inl lt ↦ absurd (holds end (omega arith) lt) | inr ge ↦ (tt, omega arith) ]
  just_next end size (e ∷ es) sorted right low le held holds =
      let begin : ℕ = e.0 * part_size in
      let some : 1 ≤ e.1.size = right.0.body.some in
      let begin_in : begin < size = held begin (inl (omega arith, omega arith)) in
      let above : (at : ℕ) → begin ≡ at → AllByRecursion (λ f. at + e.1.size ≤ f.0 * part_size) es = λ at is. behind part_size e.0 at e.1.size es is right.0.most (sorted_head nat_cmp e.0 (keys_of es) sorted) in
      let is : begin ≡ end = elim (cases_lt end begin) [
        | inl lt ↦ absurd (elim (holds end (omega arith) (omega arith)) [
          | inl here ↦ omega (arith, here.0)
          | inr later ↦ (let far = begins (begin + e.1.size) end es (above begin refl) later in omega arith)
        ])
        | inr ge ↦ omega (arith, low.0)
      ] in
      let last_in : begin + e.1.size - 1 < size = held (begin + e.1.size - 1) (inl (omega arith, omega arith)) in
      let rest = just_next (end + e.1.size) size es (sorted_tail nat_cmp e.0 (keys_of es) sorted) right.1 (above end is) (omega arith) (λ byte h. held byte (inr h))
      (λ byte from before. elim (holds byte (omega arith) before) [ inl here ↦ absurd (omega (arith, here.1)) | inr later ↦ later ]) in
      let here : nat_eq (e.0 * part_size) end ≡ true = eq-eqb (e.0 * part_size) end is in
      ((is, rest.0), ap (λ b. cond b (covered_from part_size (end + e.1.size) es) end) here ∙ rest.1)

  -- a look-up, and one of the entries
  found_holds : (index byte : ℕ) (part : Part) (es : List (ℕ × Part)) → map.find nat_cmp index es ≡ Some part → index * part_size ≤ byte → byte < index * part_size + part.size → AnyHolds part_size es byte
  found_holds index byte part [] e from before = cc
  found_holds index byte part (f ∷ es) e from before = at (eq_by_cmp nat_cmp index f.0) refl e (λ later. found_holds index byte part es later from before)
    where
      at : (b : Bool) → eq_by_cmp nat_cmp index f.0 ≡ b → cond b (Some f.1) (map.find nat_cmp index es) ≡ Some part → (map.find nat_cmp index es ≡ Some part → AnyHolds part_size es byte) → AnyHolds part_size (f ∷ es) byte
      at true t e later =
          let same : index ≡ f.0 = map.nat_cmp-IsAntisymmetric index f.0 (tied _ t) in
          let is : f.1 ≡ part = cc in
          inl (subst (λ n. n * part_size ≤ byte) same from, subst (λ (p : Part). byte < f.0 * part_size + p.size) (sym is) (subst (λ n. byte < n * part_size + part.size) same before))
      at false t e later = inr (later e)

  pub record Holding (es : List (ℕ × Part)) (byte : ℕ) : Type 0 where
    pub index : ℕ
    pub part : Part
    pub there : map.find nat_cmp index es ≡ Some part
    pub from : index * part_size ≤ byte
    pub before : byte < index * part_size + part.size

  holds_found : (byte : ℕ) (es : List (ℕ × Part)) → IsStrictlySortedBy nat_cmp (keys_of es) → AnyHolds part_size es byte → Holding es byte
  holds_found byte [] sorted h = absurd h
  holds_found byte (f ∷ es) sorted (inl here) = record {
    index = f.0;
    part = f.1;
    there = ap (λ b. cond b (Some f.1) (map.find nat_cmp f.0 es)) ((eq_by_cmp_equiv nat_cmp_total).refl f.0);
    from = here.0;
    before = here.1;
  }
  holds_found byte (f ∷ es) sorted (inr later) = at (holds_found byte es (sorted_tail nat_cmp f.0 (keys_of es) sorted) later)
    where
      at : Holding es byte → Holding (f ∷ es) byte
      at h = record { index = h.index; part = h.part; there = by (eq_by_cmp nat_cmp h.index f.0) refl; from = h.from; before = h.before }
        where
          by : (b : Bool) → eq_by_cmp nat_cmp h.index f.0 ≡ b → cond b (Some f.1) (map.find nat_cmp h.index es) ≡ Some h.part
          by true t =
              let same : h.index ≡ f.0 = map.nat_cmp-IsAntisymmetric h.index f.0 (tied _ t) in
              let none : map.find nat_cmp h.index es ≡ None = ap (λ k. map.find nat_cmp k es) same ∙ absent_below f.0 es (sorted_head nat_cmp f.0 (keys_of es) sorted) in
              let there = h.there in
              cc
          by false t = h.there

module _ (last : ℕ) (upload : Upload) (lawful : IsLawfulUpload last upload) where
  sorted : IsStrictlySortedBy nat_cmp (keys_of (map.entries upload.parts))
  sorted = rising nat_cmp (map.entries upload.parts) (map.entries_sorted upload.parts)

  to_list : (byte : ℕ) → HoldsByte upload byte → AnyHolds upload.part_size (map.entries upload.parts) byte
  to_list byte h = found_holds upload.part_size h.index byte h.part (map.entries upload.parts) (sym (map.get-entries upload.parts h.index) ∙ h.there) h.from h.before

  of_list : (byte : ℕ) → AnyHolds upload.part_size (map.entries upload.parts) byte → HoldsByte upload byte
  of_list byte h =
      let found = holds_found upload.part_size byte (map.entries upload.parts) sorted h in
      record { index = found.index; part = found.part; there = map.get-entries upload.parts found.index ∙ found.there; from = found.from; before = found.before }

  low_from_zero : (es : List (ℕ × Part)) → AllByRecursion (λ e. 0 ≤ e.0 * upload.part_size) es
  low_from_zero [] = tt
  low_from_zero (e ∷ es) = (omega arith, low_from_zero es)

  pub holds_just : (size : ℕ) → (cover_refusal upload size ≡ None) ↔ HoldsJust upload size
  holds_just size = (to, of)
    where
      to : cover_refusal upload size ≡ None → HoldsJust upload size
      to none byte =
          let covers = covers_just upload size none in
          let next = are_next last upload lawful covers.0 in (
            (λ lt. of_list byte (covered_held upload.part_size 0 byte (map.entries upload.parts) next (omega arith) (subst (λ n. byte < n) (sym covers.1) lt))),
            (λ h. subst (λ n. byte < n) covers.1 (held_covered upload.part_size 0 byte (map.entries upload.parts) next (to_list byte h)).1),
          )

      of : HoldsJust upload size → cover_refusal upload size ≡ None
      of just =
          let next = just_next upload.part_size 0 size (map.entries upload.parts) sorted (each_part last upload lawful) (low_from_zero (map.entries upload.parts)) (omega arith)
          (λ byte h. (just byte).1 (of_list byte h)) (λ byte _ lt. to_list byte ((just byte).0 lt)) in
          let gap : has_gap upload ≡ false = none_behind upload.part_size 0 (covered upload) (map.entries upload.parts) next.0 (omega arith) in
          let same : nat_eq (covered upload) size ≡ true = eq-eqb (covered upload) size next.1 in
          ap (λ b. cond b (Some (Gap (covered upload))) (cond (not (nat_eq (covered upload) size)) (Some (SizeDiffers (covered upload) size)) None)) gap
          ∙ ap (λ b. cond (not b) (Some (SizeDiffers (covered upload) size)) None) same
