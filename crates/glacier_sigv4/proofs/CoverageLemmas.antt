-- The least of names, one after another.
use Rattle.std.proofs.Common.{◌≡◌, ℕ, ◌+◌, Bool, true, false, cond, List, [], ◌∷◌, drop, Option, Some, None, refl, ap, ◌∙◌}
use Rattle.std.specs.List.{slice_get}
use Rattle.glacier_http.specs.Fields.{lower}
use Rattle.glacier_sigv4.specs.Coverage.{is_unsigned, unsigned_in, least_of}
use Rattle.glacier_sigv4.proofs.ValueLemmas.{drop_at}

-- a name more
pub least_more : (first : Option (List ℕ)) (name : List ℕ) (names : List (List ℕ)) → least_of first (name ∷ names) ≡ least_of (least_of first (name ∷ [])) names
least_more None name names = refl
least_more (Some a) name names = refl

module _ (names : List (List ℕ)) (fields : List (List ℕ × List ℕ)) (i : ℕ) (field : List ℕ × List ℕ) (is : slice_get fields i ≡ Some field) where
  at : (t : Bool) → is_unsigned names field.0 ≡ t
      → unsigned_in names (drop i fields) ≡ cond t (lower field.0 ∷ unsigned_in names (drop (i + 1) fields)) (unsigned_in names (drop (i + 1) fields))
  at t test =
      ap (unsigned_in names) (drop_at fields i field is)
      ∙ ap (λ t. cond t (lower field.0 ∷ unsigned_in names (drop (i + 1) fields)) (unsigned_in names (drop (i + 1) fields))) test

  pub least_unsigned : (first : Option (List ℕ)) → is_unsigned names field.0 ≡ true
      → least_of first (unsigned_in names (drop i fields)) ≡ least_of (least_of first (lower field.0 ∷ [])) (unsigned_in names (drop (i + 1) fields))
  least_unsigned first test = ap (least_of first) (at true test) ∙ least_more first (lower field.0) (unsigned_in names (drop (i + 1) fields))

  pub least_other : (first : Option (List ℕ)) → is_unsigned names field.0 ≡ false
      → least_of first (unsigned_in names (drop i fields)) ≡ least_of first (unsigned_in names (drop (i + 1) fields))
  least_other first test = ap (least_of first) (at false test)
