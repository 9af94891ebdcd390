-- Cutting at a separator.
use Rattle.std.proofs.Common.{◌≡◌, ℕ, Bool, true, false, cond, eqb, List, [], ◌∷◌, ◌++◌, Option, Some, None, refl, ap, sym, ◌∙◌}
use Rattle.std.specs.Prelude.{option_map}
use Rattle.std.specs.List.{slice_split, onto_first}
use Rattle.glacier_base.specs.Cuts.{cut_at, begun, is_byte}

-- the front before the first of the parts
abbrev pub behind : List ℕ → Option (List ℕ × List ℕ) → Option (List ℕ × List ℕ)
behind front cut = option_map (λ parts. (front ++ parts.0, parts.1)) cut

-- pieces where nothing is cut off
pub split_uncut : (separator : ℕ) (bytes : List ℕ) → cut_at separator bytes ≡ None → slice_split (is_byte separator) bytes ≡ bytes ∷ []
split_uncut separator [] is = refl
split_uncut separator (b ∷ bytes) is = by_test (eqb b separator) is (cut_at separator bytes) refl (split_uncut separator bytes)
  where
    by_test : (t : Bool) → cond t (Some ([], bytes)) (option_map (begun b) (cut_at separator bytes)) ≡ None
        → (c : Option (List ℕ × List ℕ)) → cut_at separator bytes ≡ c
        → (cut_at separator bytes ≡ None → slice_split (is_byte separator) bytes ≡ bytes ∷ [])
        → cond t ([] ∷ slice_split (is_byte separator) bytes) (onto_first b (slice_split (is_byte separator) bytes)) ≡ (b ∷ bytes) ∷ []
    by_test true is c e rec = cc
    by_test false is None e rec = ap (onto_first b) (rec e)
    by_test false is (Some parts) e rec = let other : None ≡ Some (begun b parts) = sym is ∙ ap (option_map (begun b)) e in cc

-- the first piece and the others, where a part is cut off
pub split_cut : (separator : ℕ) (bytes : List ℕ) (parts : List ℕ × List ℕ) → cut_at separator bytes ≡ Some parts
    → slice_split (is_byte separator) bytes ≡ parts.0 ∷ slice_split (is_byte separator) parts.1
split_cut separator [] parts is = cc
split_cut separator (b ∷ bytes) parts is = by_test (eqb b separator) is (cut_at separator bytes) refl (split_cut separator bytes)
  where
    by_test : (t : Bool) → cond t (Some ([], bytes)) (option_map (begun b) (cut_at separator bytes)) ≡ Some parts
        → (c : Option (List ℕ × List ℕ)) → cut_at separator bytes ≡ c
        → ((found : List ℕ × List ℕ) → cut_at separator bytes ≡ Some found → slice_split (is_byte separator) bytes ≡ found.0 ∷ slice_split (is_byte separator) found.1)
        → cond t ([] ∷ slice_split (is_byte separator) bytes) (onto_first b (slice_split (is_byte separator) bytes)) ≡ parts.0 ∷ slice_split (is_byte separator) parts.1
    by_test true is c e rec = let same : ([], bytes) ≡ parts = cc in ap (λ (p : List ℕ × List ℕ). p.0 ∷ slice_split (is_byte separator) p.1) same
    by_test false is None e rec = let other : None ≡ Some parts = sym (ap (option_map (begun b)) e) ∙ is in cc
    by_test false is (Some found) e rec =
        let same : begun b found ≡ parts = (let inner : Some (begun b found) ≡ Some parts = sym (ap (option_map (begun b)) e) ∙ is in cc) in
        ap (onto_first b) (rec found e) ∙ ap (λ (p : List ℕ × List ℕ). p.0 ∷ slice_split (is_byte separator) p.1) same
