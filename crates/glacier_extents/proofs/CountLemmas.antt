-- How many blocks there are in a set, and in runs.
use Rattle.std.proofs.Common.{◌≡◌, ℕ, zero, suc, ◌+◌, ◌-◌, ◌<◌, ◌≤◌, min, Bool, true, false, not, ◌||◌, List, [], ◌∷◌, ◌++◌, refl, sym, ◌∙◌, ap, ap₂, subst, inl, inr, arith}
use Rattle.std.proofs.lemmas.Bool.Decides.{leb_tells}
use Rattle.glacier_extents.specs.declared.run.Run.{Run}
use Rattle.glacier_extents.specs.Runs.{in_run, has_block, block_count, AreDistinct, AreRuns}
use Rattle.glacier_extents.specs.FreeRuns.{blocks, Claims}
use Rattle.glacier_extents.proofs.RunLemmas.{none_below, has_block-append, block_count-append}
use Rattle.glacier_extents.proofs.FreeLemmas.{in_own}
use Rattle.glacier_extents.proofs.TakenLemmas.{run_bounds}

abbrev one : Bool → ℕ
one true = 1
one false = 0

-- how many of the numbers below one are in a set
abbrev count_below : (ℕ → Bool) → ℕ → ℕ
count_below own zero = 0
count_below own (suc n) = one (own n) + count_below own n

count_same : (p q : ℕ → Bool) (n : ℕ) → ((b : ℕ) → b < n → p b ≡ q b) → count_below p n ≡ count_below q n
count_same p q zero same = refl
count_same p q (suc n) same = ap₂ (λ (a b : ℕ). a + b) (ap one (same n (omega arith))) (count_same p q n (λ b less. same b (omega (arith, less))))

count_all : (n : ℕ) → count_below (λ b. true) n ≡ n
count_all zero = refl
count_all (suc n) = omega (arith, count_all n)

count_none : (n : ℕ) → count_below (λ b. false) n ≡ 0
count_none zero = refl
count_none (suc n) = omega (arith, count_none n)

one_or : (a b : Bool) → (a ≡ true → b ≡ false) → one (a || b) ≡ one a + one b
one_or true true apart = absurd (let no : true ≡ false = apart refl in cc)
one_or true false apart = omega arith
one_or false b apart = omega arith

-- of two sets that have no number in common
count_both : (p q : ℕ → Bool) (n : ℕ) → ((b : ℕ) → b < n → p b ≡ true → q b ≡ false)
    → count_below (λ b. p b || q b) n ≡ count_below p n + count_below q n
count_both p q zero apart = omega arith
count_both p q (suc n) apart =
    omega (arith, one_or (p n) (q n) (apart n (omega arith)), count_both p q n (λ b less. apart b (omega (arith, less))))

-- a run
count_run : (run : Run) (n : ℕ) → count_below (in_run run) n ≡ min run.count (n - run.first)
count_run run zero = omega arith
count_run run (suc n) = at (in_run run n) refl (count_run run n)
  where
    at : (c : Bool) → in_run run n ≡ c → count_below (in_run run) n ≡ min run.count (n - run.first)
        → one (in_run run n) + count_below (in_run run) n ≡ min run.count (suc n - run.first)
    at true e before =
        let inside : (run.first ≤ n) × (n < run.first + run.count) = run_bounds run n e in
        let is : one (in_run run n) ≡ 1 = ap one e in
        omega (arith, is, inside.0, inside.1, before)
    at false e before =
        let is : one (in_run run n) ≡ 0 = ap one e in
        elim (leb_tells run.first n) [
          | inl from ↦ elim (leb_tells (suc n) (run.first + run.count)) [
            | inl to ↦ (let its = in_own run n from.1 to.1 in absurd (let no : true ≡ false = sym its ∙ e in cc))
            | inr past ↦ omega (arith, is, from.1, past.1, before)
          ]
          | inr low ↦ omega (arith, is, low.1, before)
        ]

-- runs have as many blocks as there are numbers in them
count_runs : (high : ℕ) (runs : List Run) → AreDistinct high runs → count_below (has_block runs) high ≡ block_count runs
count_runs high [] distinct = count_none high
count_runs high (run ∷ runs) distinct =
    let this : count_below (in_run run) high ≡ run.count = count_run run high ∙ omega (arith, distinct.1) in
    let both = count_both (in_run run) (has_block runs) high (λ b less its. distinct.2 b its) in
    both ∙ ap₂ (λ (a b : ℕ). a + b) this (count_runs high runs distinct.3)

-- where each block is in one of two lists, they have all blocks together
pub all_blocks : (high : ℕ) (free used : List Run) → AreDistinct high free → AreDistinct high used
    → ((b : ℕ) → b < high → has_block used b ≡ not (has_block free b))
    → block_count free + block_count used ≡ high
all_blocks high free used ours theirs rest =
    let apart : (b : ℕ) → b < high → has_block free b ≡ true → has_block used b ≡ false = λ b less is. rest b less ∙ ap not is in
    let all : (b : ℕ) → b < high → (has_block free b || has_block used b) ≡ true = λ b less. ap (λ (v : Bool). has_block free b || v) (rest b less) ∙ or_not (has_block free b) in
    ap₂ (λ (a b : ℕ). a + b) (sym (count_runs high free ours)) (sym (count_runs high used theirs))
    ∙ sym (count_both (has_block free) (has_block used) high apart)
    ∙ count_same (λ b. has_block free b || has_block used b) (λ b. true) high all
    ∙ count_all high
  where
    or_not : (a : Bool) → (a || not a) ≡ true
    or_not true = refl
    or_not false = refl

-- runs with a block between any two have no block twice
pub distinct_runs : (low high : ℕ) (runs : List Run) → AreRuns low high runs → AreDistinct high runs
distinct_runs low high [] are = tt
distinct_runs low high (run ∷ runs) are = (
  are.1,
  are.2,
  λ b its. none_below (run.first + run.count + 1) high b runs are.3 (omega (arith, (run_bounds run b its).1)),
  distinct_runs (run.first + run.count + 1) high runs are.3,
)

pub free_and_used : (free used : List Run) → AreRuns 0 blocks free → AreDistinct blocks used
    → ((b : ℕ) → b < blocks → has_block used b ≡ not (has_block free b))
    → block_count free + block_count used ≡ blocks
free_and_used free used are = all_blocks blocks free used (distinct_runs 0 blocks free are)

one-le-or : (a b : Bool) → one (a || b) ≤ one a + one b
one-le-or true b = omega arith
one-le-or false b = omega arith

-- of two sets, whatever they have in common
count_either : (p q : ℕ → Bool) (n : ℕ) → count_below (λ b. p b || q b) n ≤ count_below p n + count_below q n
count_either p q zero = omega arith
count_either p q (suc n) = omega (arith, one-le-or (p n) (q n), count_either p q n)

-- runs have no fewer blocks than there are numbers in them
count_within : (runs : List Run) (n : ℕ) → count_below (has_block runs) n ≤ block_count runs
count_within [] n = omega (arith, count_none n)
count_within (run ∷ runs) n =
    omega (arith, count_either (in_run run) (has_block runs) n, count_run run n, count_within runs n)

-- runs that have each block below an end have as many
covered : (high : ℕ) (runs : List Run) → ((b : ℕ) → b < high → has_block runs b ≡ true) → high ≤ block_count runs
covered high runs all =
    omega (arith, count_same (has_block runs) (λ b. true) high all, count_all high, count_within runs high)

low_of : (high n b free used : ℕ) → high ≤ free + used → b + free < high + n → b < used + n
low_of high n b free used all below = omega (arith, all, below)

-- blocks that are claimed lie below as many as are in use and are now claimed, where each that isn't free is in use
pub claimed_low : (n : ℕ) (old new claimed used : List Run) → ((b : ℕ) → b < blocks → has_block old b ≡ false → has_block used b ≡ true)
    → Claims n old new claimed → (b : ℕ) → has_block claimed b ≡ true → b < block_count used + n
claimed_low n old new claimed used rest claims b its =
    let each : (c : ℕ) → c < blocks → has_block (old ++ used) c ≡ true = λ c low. has_block-append old used c ∙ either (has_block old c) (has_block used c) (rest c low) in
    low_of blocks n b (block_count old) (block_count used) (subst (λ (count : ℕ). blocks ≤ count) (block_count-append old used) (covered blocks (old ++ used) each)) (claims.below b its)
  where
    either : (free in_use : Bool) → (free ≡ false → in_use ≡ true) → (free || in_use) ≡ true
    either true in_use is = refl
    either false in_use is = is refl
