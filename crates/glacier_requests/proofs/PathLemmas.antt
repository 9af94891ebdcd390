-- Paths that go on behind the longest.
use Rattle.std.proofs.Common.{◌≡◌, ◌<◌, ℕ, List, [], ◌∷◌, length, None, refl, arith}
use Rattle.std.proofs.lemmas.List.Splits.{length-slice_split}
use Rattle.glacier_base.specs.Cuts.{is_byte}
use Rattle.glacier_requests.specs.Places.{place_behind}
use Rattle.glacier_requests.specs.Routes.{pieces}

too_many : (one text last : List ℕ) (more : List (List ℕ)) → 0 < length more
    → place_behind (one ∷ text ∷ last ∷ more) ≡ None
too_many one text last [] h = absurd (omega (arith, h))
too_many one text last (piece ∷ more) h = refl

-- a fourth piece behind a vault's name names no place
pub no_fourth : (one text last rest : List ℕ) → place_behind (one ∷ text ∷ last ∷ pieces rest) ≡ None
no_fourth one text last rest =
    too_many one text last (pieces rest) (omega (arith, length-slice_split (is_byte 47) rest))
