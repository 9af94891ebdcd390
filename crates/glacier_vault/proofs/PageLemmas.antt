-- Pages of lists.
use Rattle.std.specs.Prelude.{◌≡◌, ℕ, ◌≤◌, List, [], ◌∷◌, ◌++◌, length, take, Some, None, slice_get}
use Rattle.std.proofs.Common.{◌∙◌, ap, refl, subst, arith}
use Rattle.std.proofs.lemmas.List.{take_all}
use Rattle.std.proofs.lemmas.Option.{slice_get_past}
use Rattle.glacier_vault.specs.Lists.{page}

module _ {X : Type 0} where
  taken : (xs : List X) (y : X) (ys : List X) → take (length xs) (xs ++ y ∷ ys) ≡ xs
  taken [] y ys = refl
  taken (x ∷ xs) y ys = ap (λ zs. x ∷ zs) (taken xs y ys)

  behind : (xs : List X) (y : X) (ys : List X) → slice_get (xs ++ y ∷ ys) (length xs) ≡ Some y
  behind [] y ys = refl
  behind (x ∷ xs) y ys = behind xs y ys

  -- a full page, and what stands behind it
  pub page-full : (limit : ℕ) (all xs : List X) (y : X) (ys : List X) → xs ++ y ∷ ys ≡ all → length xs ≤ limit → limit ≤ length xs → page limit all ≡ (xs, Some y)
  page-full limit all xs y ys is low high =
      let same : length xs ≡ limit = omega arith in
      subst (λ zs. page limit zs ≡ (xs, Some y)) is
      (subst (λ n. page n (xs ++ y ∷ ys) ≡ (xs, Some y)) same
      (ap (λ zs. (zs, slice_get (xs ++ y ∷ ys) (length xs))) (taken xs y ys) ∙ ap (λ r. (xs, r)) (behind xs y ys)))

  -- a page that holds all
  pub page-whole : (limit : ℕ) (xs : List X) → length xs ≤ limit → page limit xs ≡ (xs, None)
  page-whole limit xs low = ap (λ zs. (zs, slice_get xs limit)) (take_all limit xs low) ∙ ap (λ r. (xs, r)) (slice_get_past xs limit low)
