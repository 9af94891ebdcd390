-- Fields that are written one behind the other.
use Rattle.std.proofs.Common.{◌≡◌, ℕ, ◌+◌, ◌<◌, List, ◌∷◌, ◌++◌, length, get_or, drop, flat_map, sym, ap, subst, ◌∙◌, append_assoc}
use Rattle.std.specs.Prelude.{Result, OnOk}
use Rattle.std.specs.List.{AllByRecursion}
use Rattle.std.proofs.lemmas.List.{drop_more}
use Rattle.std.proofs.lemmas.List.Concat.{flat_map-cons}
use Rattle.std.proofs.lemmas.Result.{on_ok_weaker}

-- what was written before is the first of two parts
pub behind : {T E : Type 0} (r : Result T E) (new mid old a b : List ℕ) → mid ≡ old ++ a → OnOk r (new ≡ mid ++ b)
    → OnOk r (new ≡ old ++ (a ++ b))
behind r new mid old a b is last = on_ok_weaker r (λ e. e ∙ ap (λ (l : List ℕ). l ++ b) is ∙ append_assoc old a b) last

module _ {X : Type 0} (xs : List X) (i : ℕ) (d : X) (lt : i < length xs) where
  -- one more of the values was written
  pub one_more : (spell : X → List ℕ) (text new whole : List ℕ) → new ≡ text ++ spell (get_or xs i d)
      → text ++ flat_map spell (drop i xs) ≡ whole → new ++ flat_map spell (drop (i + 1) xs) ≡ whole
  one_more spell text new whole is so_far =
      ap (λ (l : List ℕ). l ++ flat_map spell (drop (i + 1) xs)) is
      ∙ append_assoc text (spell (get_or xs i d)) (flat_map spell (drop (i + 1) xs))
      ∙ ap (λ (l : List ℕ). text ++ l) (sym (flat_map-cons spell (get_or xs i d) (drop (i + 1) xs)))
      ∙ ap (λ (l : List X). text ++ flat_map spell l) (sym (drop_more xs i d lt)) ∙ so_far

  -- the next value fits, and so do the others where those behind it do
  pub one_more_fits : (P : X → Type 0) → P (get_or xs i d) → (AllByRecursion P (drop i xs) → AllByRecursion P xs)
      → AllByRecursion P (drop (i + 1) xs) → AllByRecursion P xs
  one_more_fits P fits so_far more =
      so_far (subst (λ (l : List X). AllByRecursion P l) (sym (drop_more xs i d lt)) (fits, more))

  -- what holds of all that are left holds of those behind the next
  pub still_left : (P : X → Type 0) → AllByRecursion P (drop i xs) → AllByRecursion P (drop (i + 1) xs)
  still_left P all =
      let both : AllByRecursion P (get_or xs i d ∷ drop (i + 1) xs) = subst (λ (l : List X). AllByRecursion P l) (drop_more xs i d lt) all in
      both.1
