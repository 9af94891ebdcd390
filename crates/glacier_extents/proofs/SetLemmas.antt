-- Sets of blocks, as runs.
use Rattle.std.proofs.Common.{◌≡◌, ℕ, suc, ◌+◌, ◌<◌, ◌≤◌, Bool, true, false, ◌||◌, List, [], ◌∷◌, refl, sym, ◌∙◌, ap₂, subst, inl, inr, arith}
use Rattle.std.proofs.lemmas.Bool.Decides.{leb_tells}
use Rattle.glacier_extents.specs.declared.run.Run.{Run}
use Rattle.glacier_extents.specs.Runs.{in_run, has_block, AreRuns}
use Rattle.glacier_extents.proofs.RunLemmas.{none_below}
use Rattle.glacier_extents.proofs.FreeLemmas.{in_own, no_both}
use Rattle.glacier_extents.proofs.TakenLemmas.{above_out}

or_true : (a : Bool) → (true || a) ≡ true
or_true a = refl

-- the first block of the first run
first_in : (run : Run) (runs : List Run) (b : ℕ) → run.first ≤ b → b < run.first + run.count
    → has_block (run ∷ runs) b ≡ true
first_in run runs b low high = rw (in_own run b low high) refl

-- a block that is in no run at the front
not_first : (low high b : ℕ) (run : Run) (runs : List Run) → AreRuns low high (run ∷ runs) → b < run.first
    → has_block (run ∷ runs) b ≡ false
not_first low high b run runs are less = none_below run.first high b (run ∷ runs) (omega arith, are.1, are.2, are.3) less

-- the block behind a run isn't free
behind_first : (low high : ℕ) (run : Run) (runs : List Run) → AreRuns low high (run ∷ runs)
    → has_block (run ∷ runs) (run.first + run.count) ≡ false
behind_first low high run runs are =
    rw (above_out run (run.first + run.count) (omega arith), none_below (run.first + run.count + 1) high (run.first + run.count) runs are.3 (omega arith)) refl

-- what is in two lists alike, and not in their first run, is in the rest alike
rest_same : (low high b : ℕ) (run : Run) (xs ys : List Run) → AreRuns low high (run ∷ xs)
    → AreRuns low high (run ∷ ys) → has_block (run ∷ xs) b ≡ has_block (run ∷ ys) b → has_block xs b ≡ has_block ys b
rest_same low high b run xs ys are too same =
    elim (leb_tells (suc b) (run.first + run.count + 1)) [
      | inl within ↦ none_below (run.first + run.count + 1) high b xs are.3 (omega (arith, within.1)) ∙ sym (none_below (run.first + run.count + 1) high b ys too.3 (omega (arith, within.1)))
      | inr past ↦ (let out : in_run run b ≡ false = above_out run b (omega (arith, past.1)) in
          let here : has_block (run ∷ xs) b ≡ has_block xs b = rw out refl in
          let there : has_block (run ∷ ys) b ≡ has_block ys b = rw out refl in
          sym here ∙ same ∙ there)
    ]

-- runs in rising order with a block between any two are told by their blocks
pub same_runs : (low high : ℕ) (xs ys : List Run) → AreRuns low high xs → AreRuns low high ys
    → ((b : ℕ) → has_block xs b ≡ has_block ys b) → xs ≡ ys
same_runs low high [] [] are too same = refl
same_runs low high [] (y ∷ ys) are too same = absurd (no_both false (same y.first ∙ first_in y ys y.first (omega arith) (omega (arith, too.1))) refl)
same_runs low high (x ∷ xs) [] are too same = absurd (no_both false (sym (same x.first) ∙ first_in x xs x.first (omega arith) (omega (arith, are.1))) refl)
same_runs low high (x ∷ xs) (y ∷ ys) are too same =
    let first : x.first ≡ y.first = elim (leb_tells x.first y.first) [
      | inl le ↦ (elim (leb_tells y.first x.first) [
        | inl ge ↦ omega (arith, le.1, ge.1)
        | inr lt ↦ absurd (no_both (has_block (x ∷ xs) x.first) (first_in x xs x.first (omega arith) (omega (arith, are.1))) (same x.first ∙ not_first low high x.first y ys too lt.1))
      ])
      | inr lt ↦ absurd (no_both (has_block (y ∷ ys) y.first) (first_in y ys y.first (omega arith) (omega (arith, too.1))) (sym (same y.first) ∙ not_first low high y.first x xs are lt.1))
    ] in
    let count : x.count ≡ y.count = elim (leb_tells x.count y.count) [
      | inl le ↦ (elim (leb_tells y.count x.count) [
        | inl ge ↦ omega (arith, le.1, ge.1)
        | inr lt ↦ absurd (no_both (has_block (y ∷ ys) (x.first + x.count)) (first_in y ys (x.first + x.count) (omega (arith, first)) (omega (arith, first, lt.1)))
            (sym (same (x.first + x.count)) ∙ behind_first low high x xs are))
      ])
      | inr lt ↦ absurd (no_both (has_block (x ∷ xs) (y.first + y.count)) (first_in x xs (y.first + y.count) (omega (arith, first)) (omega (arith, first, lt.1)))
          (same (y.first + y.count) ∙ behind_first low high y ys too))
    ] in
    let run : y ≡ x = ap₂ (λ (f c : ℕ). let r : Run = record { first = f; count = c } in r) (sym first) (sym count) in
    let too' : AreRuns low high (x ∷ ys) = subst (λ (r : Run). AreRuns low high (r ∷ ys)) run too in
    let same' : (b : ℕ) → has_block (x ∷ xs) b ≡ has_block (x ∷ ys) b = subst (λ (r : Run). (b : ℕ) → has_block (x ∷ xs) b ≡ has_block (r ∷ ys) b) run same in
    ap₂ (λ (r : Run) (rs : List Run). r ∷ rs) (sym run) (same_runs (x.first + x.count + 1) high xs ys are.3 too'.3 (λ b. rest_same low high b x xs ys are too' (same' b)))
