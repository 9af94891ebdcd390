-- Texts that lack a byte, and texts that are cut at it.
use Rattle.std.proofs.Common.{◌≡◌, ℕ, suc, Bool, true, false, cond, not, eqb, List, [], ◌∷◌, ◌++◌, Option, Some, None, refl, ap, sym, ◌∙◌, true≢false, arith}
use Rattle.std.specs.Prelude.{option_map}
use Rattle.std.specs.List.{Contains, list_all, slice_split, join_with_byte}
use Rattle.std.proofs.lemmas.List.Sums.{AllPass-from_list_all}
use Rattle.std.proofs.lemmas.Bool.{eqb-true, eq-eqb, and_parts, and_from, not-true}
use Rattle.glacier_base.specs.Cuts.{cut_at, begun, is_byte}
use Rattle.glacier_base.proofs.CutLemmas.{split_uncut, split_cut}

-- no byte of the text is this one
abbrev pub lacks : ℕ → List ℕ → Bool
lacks separator text = list_all (λ b. not (eqb b separator)) text

-- a test that this byte fails
pub lacks_from : (test : ℕ → Bool) (separator : ℕ) → test separator ≡ false → (text : List ℕ) → list_all test text ≡ true → lacks separator text ≡ true
lacks_from test separator fails [] passes = refl
lacks_from test separator fails (b ∷ text) passes =
    let p = and_parts (test b) (list_all test text) passes in
    and_from (not (eqb b separator)) (lacks separator text) (other (eqb b separator) refl p.0) (lacks_from test separator fails text p.1)
  where
    other : (t : Bool) → eqb b separator ≡ t → test b ≡ true → not t ≡ true
    other false e p = refl
    other true e p = absurd (true≢false (sym p ∙ ap test (eqb-true b separator e) ∙ fails))

pub lacks_append : (separator : ℕ) (front back : List ℕ) → lacks separator front ≡ true → lacks separator back ≡ true → lacks separator (front ++ back) ≡ true
lacks_append separator [] back p q = q
lacks_append separator (b ∷ front) back p q =
    let w = and_parts (not (eqb b separator)) (lacks separator front) p in
    and_from (not (eqb b separator)) _ w.0 (lacks_append separator front back w.1 q)

-- nothing is cut off
pub cut_lacking : (separator : ℕ) (text : List ℕ) → lacks separator text ≡ true → cut_at separator text ≡ None
cut_lacking separator [] lack = refl
cut_lacking separator (b ∷ text) lack =
    let p = and_parts (not (eqb b separator)) (lacks separator text) lack in
    ap (λ t. cond t (Some ([], text)) (option_map (begun b) (cut_at separator text))) (not-true (eqb b separator) p.0)
    ∙ ap (option_map (begun b)) (cut_lacking separator text p.1)

-- the first separator is the one behind such a text
pub cut_behind : (separator : ℕ) (front back : List ℕ) → lacks separator front ≡ true → cut_at separator (front ++ separator ∷ back) ≡ Some (front, back)
cut_behind separator [] back lack =
    ap (λ t. cond t (Some ([], back)) (option_map (begun separator) (cut_at separator back))) (eq-eqb separator separator refl)
cut_behind separator (b ∷ front) back lack =
    let p = and_parts (not (eqb b separator)) (lacks separator front) lack in
    let text = front ++ separator ∷ back in
    ap (λ t. cond t (Some ([], text)) (option_map (begun b) (cut_at separator text))) (not-true (eqb b separator) p.0)
    ∙ ap (option_map (begun b)) (cut_behind separator front back p.1)

-- pieces that lack the separator, joined and split again
pub split_join : (separator : ℕ) (piece : List ℕ) (pieces : List (List ℕ)) → list_all (lacks separator) (piece ∷ pieces) ≡ true
    → slice_split (is_byte separator) (join_with_byte separator (piece ∷ pieces)) ≡ piece ∷ pieces
split_join separator piece [] lack = split_uncut separator piece (cut_lacking separator piece (and_parts (lacks separator piece) true lack).0)
split_join separator piece (next ∷ pieces) lack =
    let p = and_parts (lacks separator piece) (list_all (lacks separator) (next ∷ pieces)) lack in
    let rest = join_with_byte separator (next ∷ pieces) in
    split_cut separator (piece ++ separator ∷ rest) (piece, rest) (cut_behind separator piece rest p.0)
    ∙ ap (λ l. piece ∷ l) (split_join separator next pieces p.1)

-- both parts lack it
pub lacks_parts : (separator : ℕ) (front back : List ℕ) → lacks separator (front ++ back) ≡ true → (lacks separator front ≡ true) × (lacks separator back ≡ true)
lacks_parts separator [] back lack = (refl, lack)
lacks_parts separator (b ∷ front) back lack =
    let p = and_parts (not (eqb b separator)) (lacks separator (front ++ back)) lack in
    let rest = lacks_parts separator front back p.1 in
    (and_from (not (eqb b separator)) (lacks separator front) p.0 rest.0, rest.1)

-- a text of which nothing is cut off
pub uncut_lacks : (separator : ℕ) (text : List ℕ) → cut_at separator text ≡ None → lacks separator text ≡ true
uncut_lacks separator [] is = refl
uncut_lacks separator (b ∷ text) is = go (eqb b separator) refl is (cut_at separator text) refl (uncut_lacks separator text)
  where
    go : (t : Bool) → eqb b separator ≡ t → cond t (Some ([], text)) (option_map (begun b) (cut_at separator text)) ≡ None
        → (c : Option (List ℕ × List ℕ)) → cut_at separator text ≡ c → (cut_at separator text ≡ None → lacks separator text ≡ true)
        → lacks separator (b ∷ text) ≡ true
    go true e is c cut rec = cc
    go false e is None cut rec = and_from (not (eqb b separator)) (lacks separator text) (ap not e) (rec cut)
    go false e is (Some found) cut rec = let other : Some (begun b found) ≡ None = sym (ap (option_map (begun b)) cut) ∙ is in cc

-- the same in std's word
pub lacks_not : (separator : ℕ) (text : List ℕ) → lacks separator text ≡ true → Contains text separator → ⊥
lacks_not separator text lack has =
    let at = AllPass-from_list_all (λ b. not (eqb b separator)) text lack has.0 separator has.1 in
    true≢false (sym at ∙ ap not (eq-eqb _ separator has.2))

pub lacks_from_not : (separator : ℕ) (text : List ℕ) → (Contains text separator → ⊥) → lacks separator text ≡ true
lacks_from_not separator [] none = refl
lacks_from_not separator (b ∷ text) none =
    and_from (not (eqb b separator)) (lacks separator text) (go (eqb b separator) refl)
    (lacks_from_not separator text (λ has. none (suc has.0, omega (arith, has.1), has.2)))
  where
    go : (t : Bool) → eqb b separator ≡ t → not t ≡ true
    go false e = refl
    go true e = absurd (none (0, omega arith, eqb-true b separator e))
