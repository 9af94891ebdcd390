-- The run in which a place of a layout lies.
use Rattle.std.proofs.Common.{◌≡◌, ℕ, zero, suc, ◌+◌, ◌-◌, ◌<◌, ◌≤◌, List, [], ◌∷◌, length, get_or, refl, ◌∙◌, ap, inl, inr, arith, add-one}
use Rattle.std.proofs.lemmas.Bool.Decides.{leb_tells}
use Rattle.glacier_extents.specs.declared.run.Run.{Run}
use Rattle.glacier_extents.specs.Runs.{AreDistinct, block_count, block_at}
use Rattle.glacier_bodies.specs.Layouts.{starts_from}

pub length-starts_from : (start : ℕ) (runs : List Run) → length (starts_from start runs) ≡ length runs
length-starts_from start [] = refl
length-starts_from start (run ∷ runs) = ap suc (length-starts_from (start + run.count) runs)

-- none begins before the first
pub starts_above : (start : ℕ) (runs : List Run) (i : ℕ) → i < length runs → start ≤ get_or (starts_from start runs) i 0
starts_above start [] i h = absurd (omega arith)
starts_above start (run ∷ runs) zero h = omega arith
starts_above start (run ∷ runs) (suc i) h = omega (arith, starts_above (start + run.count) runs i (omega arith))

-- the block at a place, in the run that begins at it or before and ends behind it
pub block_in : (start place i : ℕ) (runs : List Run) (d : Run) → i < length runs
    → get_or (starts_from start runs) i 0 ≤ start + place
    → (suc i < length runs → start + place < get_or (starts_from start runs) (suc i) 0) → place < block_count runs
    → block_at runs place ≡ (get_or runs i d).first + (start + place - get_or (starts_from start runs) i 0)
block_in start place i [] d inside from to total = absurd (omega arith)
block_in start place zero (run ∷ []) d inside from to total =
    let low : place < run.count = omega arith in
    grind (arith, leb_tells (suc place) run.count)
block_in start place zero (run ∷ (next ∷ runs)) d inside from to total =
    let low : start + place < start + run.count = to (omega arith) in
    grind (arith, leb_tells (suc place) run.count)
block_in start place (suc i) (run ∷ runs) d inside from to total =
    let above = starts_above (start + run.count) runs i (omega arith) in
    let high : run.count ≤ place = omega (arith, above, from) in
    let sum : start + run.count + (place - run.count) ≡ start + place = omega (arith, high) in
    let rest = block_in (start + run.count) (place - run.count) i runs d (omega arith) (omega (arith, sum, from)) (λ more. omega (arith, sum, to (omega (arith, more)))) (omega (arith, total)) in
    let here : block_at (run ∷ runs) place ≡ block_at runs (place - run.count) = grind (arith, leb_tells (suc place) run.count) in
    here ∙ rest ∙ ap (λ n. (get_or runs i d).first + (n - get_or (starts_from (start + run.count) runs) i 0)) sum

-- the first begins at the start
pub first_start : (starts : List ℕ) (place : ℕ) (runs : List Run) → starts ≡ starts_from 0 runs
    → place < block_count runs → (0 < length starts) × (get_or starts 0 0 ≤ place)
first_start starts place [] is inside = absurd (omega arith)
first_start starts place (run ∷ runs) is inside = rw is (omega arith, omega arith)

pub length_starts : (starts : List ℕ) (runs : List Run) → starts ≡ starts_from 0 runs → length starts ≡ length runs
length_starts starts runs is = ap length is ∙ length-starts_from 0 runs

-- the block that was looked for
pub block_found : (runs : List Run) (starts : List ℕ) (place at : ℕ) (d : Run) → starts ≡ starts_from 0 runs
    → at < length starts
    → get_or starts at 0 ≤ place → (at + 1 < length starts → place < get_or starts (at + 1) 0)
    → place < block_count runs
    → (get_or runs at d).first + (place - get_or starts at 0) ≡ block_at runs place
block_found runs starts place at d is inside from to total =
    let long = length_starts starts runs is in
    let here : get_or starts at 0 ≡ get_or (starts_from 0 runs) at 0 = ap (λ xs. get_or xs at 0) is in
    let next : get_or starts (at + 1) 0 ≡ get_or (starts_from 0 runs) (suc at) 0 = ap (λ xs. get_or xs (at + 1) 0) is ∙ ap (λ n. get_or (starts_from 0 runs) n 0) (add-one at) in
    let block = block_in 0 place at runs d (omega (arith, long)) (omega (arith, here, from)) (λ more. omega (arith, next, to (omega (arith, long, more)))) total in
    omega (arith, block, here)

-- blocks in range
pub block_at_bound : (high : ℕ) (runs : List Run) (place : ℕ) → AreDistinct high runs → place < block_count runs
    → block_at runs place < high
block_at_bound high [] place distinct inside = absurd (omega arith)
block_at_bound high (run ∷ runs) place distinct inside =
    elim (leb_tells (suc place) run.count) [
      | inl low ↦ (let here : block_at (run ∷ runs) place ≡ run.first + place = grind (arith, low.0) in omega (arith, here, low.1, distinct.1))
      | inr high' ↦ (let here : block_at (run ∷ runs) place ≡ block_at runs (place - run.count) = grind (arith, high'.0) in
          omega (arith, here, block_at_bound high runs (place - run.count) distinct.3 (omega (arith, high'.1))))
    ]
