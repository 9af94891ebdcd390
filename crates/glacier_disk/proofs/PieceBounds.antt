-- The bounds of a station's receives.
use Rattle.std.proofs.Common.{◌≡◌, ◌∙◌, ◌+◌, ◌≤◌, sym, ap, ℕ, min, List, [], ◌∷◌, length, drop, arith}
use Rattle.std.proofs.lemmas.List.{drop_all, drop-drop}
use Rattle.glacier_disk.specs.PieceSizes.{bounded}
use Rattle.glacier_disk.specs.Network.{Connection, OnLast}

bounded_min : (pieces : List ℕ) (room coming : ℕ)
    → min room (min (bounded pieces room) coming) ≡ bounded pieces (min room coming)
bounded_min [] room coming = omega arith
bounded_min (piece ∷ pieces) room coming = omega arith

-- what a receive takes, by the bound that its room and the plan give
pub piece_size : (pieces : List ℕ) (room limit n : ℕ) {old new : List Connection} → limit ≡ bounded pieces room
    → OnLast (λ from to. n ≡ min room (min limit (length from.coming))) old new
    → OnLast (λ from to. n ≡ bounded pieces (min room (length from.coming))) old new
piece_size pieces room limit n is last = record {
  before = last.before;
  from = last.from;
  to = last.to;
  was = last.was;
  is = last.is;
  steps = last.steps ∙ ap (λ (k : ℕ). min room (min k (length last.from.coming))) is ∙ bounded_min pieces room (length last.from.coming);
}

pub drop_next : (k : ℕ) (xs : List ℕ) → drop (k + 1) xs ≡ drop 1 (drop k xs)
drop_next k xs = sym (drop-drop 1 k xs)

pub drop_none : (k : ℕ) (xs : List ℕ) → length xs ≤ k → drop k xs ≡ drop 1 (drop k xs)
drop_none k xs le =
    let none = drop_all k xs le in
    none ∙ sym (ap (λ (l : List ℕ). drop 1 l) none)
