-- What words say that begin with an option.
use Rattle.std.proofs.Common.{◌≡◌, ℕ, ◌≤◌, Bool, true, false, cond, List, [], ◌∷◌, length, map, drop, take, ◌-◌, get_or, Option, Some, None, sym, ap, subst, ◌∙◌, arith}
use Rattle.std.proofs.Math.Seq.{take-length}
use Rattle.std.proofs.lemmas.List.{length-drop}
use Rattle.std.specs.Prelude.{bytes_eq, codes, option_and_then}
use Rattle.glacier_cli.specs.Options.{Said, options_of, with_new, with_value}

-- what is left of a list is all of its rest
pub whole_rest : {A : Type 0} (k : ℕ) (words : List A) → take (length words - k) (drop k words) ≡ drop k words
whole_rest {A} k words = subst (λ (n : ℕ). take n (drop k words) ≡ drop k words) (length-drop k words) (take-length (drop k words))

module _ {A : Type 0} (text : A → List ℕ) (said next : Said) where
  -- `--new`, and what stands behind it
  pub behind_new : (words : List A) (name : A) → 1 ≤ length words → name ≡ get_or words 0 name
      → bytes_eq (text name) (codes "--new") ≡ true → Some next ≡ with_new said
      → options_of (map text (drop 1 words)) next ≡ options_of (map text words) said
  behind_new [] name some first test is = absurd (omega arith)
  behind_new (x ∷ []) name some first test is =
      let here : bytes_eq (text x) (codes "--new") ≡ true = subst (λ (y : A). bytes_eq (text y) (codes "--new") ≡ true) first test in
      is ∙ sym (ap (λ t. cond t (with_new said) None) here)
  behind_new (x ∷ y ∷ words) name some first test is =
      let here : bytes_eq (text x) (codes "--new") ≡ true = subst (λ (y : A). bytes_eq (text y) (codes "--new") ≡ true) first test in
      let rest = text y ∷ map text words in
      ap (option_and_then (options_of rest)) is
      ∙ sym (ap (λ t. cond t (option_and_then (options_of rest) (with_new said)) (option_and_then (options_of (map text words)) (with_value (text x) (text y) said))) here)

  -- an option with its value, and what stands behind that
  pub behind_value : (words : List A) (front name value : A) → 2 ≤ length words → front ≡ get_or words 0 front
      → bytes_eq (text front) (codes "--new") ≡ false → name ≡ get_or words 0 name → value ≡ get_or words 1 value
      → Some next ≡ with_value (text name) (text value) said
      → options_of (map text (drop 2 words)) next ≡ options_of (map text words) said
  behind_value [] front name value some first test again second is = absurd (omega arith)
  behind_value (x ∷ []) front name value some first test again second is = absurd (omega arith)
  behind_value (x ∷ y ∷ words) front name value some first test again second is =
      let here : bytes_eq (text x) (codes "--new") ≡ false = subst (λ (z : A). bytes_eq (text z) (codes "--new") ≡ false) first test in
      let said_so : Some next ≡ with_value (text x) (text y) said =
      subst (λ (z : A). Some next ≡ with_value (text x) (text z) said) second (subst (λ (z : A). Some next ≡ with_value (text z) (text value) said) again is) in
      let rest = text y ∷ map text words in
      ap (option_and_then (options_of (map text words))) said_so
      ∙ sym (ap (λ t. cond t (option_and_then (options_of rest) (with_new said)) (option_and_then (options_of (map text words)) (with_value (text x) (text y) said))) here)
