-- Names between semicolons.
use Rattle.std.proofs.Common.{◌≡◌, ℕ, Bool, true, false, List, [], ◌∷◌, ◌++◌, refl, ap, sym, append-nil}
use Rattle.std.specs.List.{join_with_byte}
use Rattle.std.specs.List.{slice_split}
use Rattle.std.proofs.lemmas.List.Splits.{join_with_byte-slice_split}
use Rattle.glacier_base.specs.Cuts.{is_byte}
use Rattle.glacier_sigv4.specs.Canonical.{next_name}

-- the names that are still to come, where some stand before them or none
abbrev pub more_names : Bool → List (List ℕ) → List ℕ
more_names more [] = []
more_names more (name ∷ names) = next_name more name ++ more_names true names

joined_after : (name : List ℕ) (names : List (List ℕ)) → join_with_byte 59 (name ∷ names) ≡ name ++ more_names true names
joined_after name [] = sym (append-nil name)
joined_after name (next ∷ names) = ap (λ l. name ++ (59 ∷ l)) (joined_after next names)

-- all names are still to come
pub join_names : (names : List (List ℕ)) → join_with_byte 59 names ≡ more_names false names
join_names [] = refl
join_names (name ∷ names) = joined_after name names

-- the names of a text, joined again
pub join_split : (names : List ℕ) → join_with_byte 59 (slice_split (is_byte 59) names) ≡ names
join_split names = join_with_byte-slice_split 59 names
