-- The lowest blocks of free runs.
use Rattle.std.proofs.Common.{◌≡◌, ◌⊎◌, ℕ, suc, ◌+◌, ◌-◌, ◌<◌, ◌≤◌, Bool, true, false, ◌&&◌, ◌||◌, not, List, [], ◌∷◌, ◌++◌, length, take, get_or, refl, sym, ◌∙◌, ap, inl, inr, arith}
use Rattle.std.proofs.lemmas.Bool.Decides.{leb_tells}
use Rattle.std.proofs.lemmas.List.{take_more}
use Rattle.glacier_extents.specs.declared.run.Run.{Run}
use Rattle.glacier_extents.specs.Runs.{in_run, has_block, block_count, AreRuns}
use Rattle.glacier_extents.specs.FreeRuns.{blocks, run_at, Claims}
use Rattle.glacier_extents.proofs.RunLemmas.{has_block-append, block_count-append, runs_wider, Parts, parts, runs_joined, none_below, none_above, few_blocks}
use Rattle.glacier_extents.proofs.FreeLemmas.{no_both, in_joined}
use Rattle.glacier_extents.proofs.TakenLemmas.{run_bounds}
use Rattle.glacier_extents.proofs.MarkLemmas.{has_block-push}

-- one run more
pub count_more : (runs : List Run) (i : ℕ) → i < length runs
    → block_count (take (i + 1) runs) ≡ block_count (take i runs) + (run_at runs i).count
count_more runs i inside =
    let none : Run = record { first = 0; count = 0 } in
    omega (arith, ap block_count (take_more runs i none inside), block_count-append (take i runs) (get_or runs i none ∷ []))

pub runs_front : (low high : ℕ) (front rest : List Run) → AreRuns low high (front ++ rest) → AreRuns low high front
runs_front low high [] rest are = tt
runs_front low high (run ∷ front) rest are = (are.0, are.1, are.2, runs_front (run.first + run.count + 1) high front rest are.3)

pub runs_rest : (low high : ℕ) (front rest : List Run) → AreRuns low high (front ++ rest) → AreRuns low high rest
runs_rest low high [] rest are = are
runs_rest low high (run ∷ front) rest are =
    runs_wider (run.first + run.count + 1) high low high rest (omega (arith, are.0)) (omega arith) (runs_rest (run.first + run.count + 1) high front rest are.3)

or_cases : (a b : Bool) → (a || b) ≡ true → (a ≡ true) ⊎ (b ≡ true)
or_cases true b h = inl refl
or_cases false b h = inr h

or_right : (a b : Bool) → b ≡ true → (a || b) ≡ true
or_right true b h = refl
or_right false b h = h

or_left : (a b : Bool) → a ≡ true → (a || b) ≡ true
or_left true b h = refl
or_left false b h = cc

-- a block that is free isn't below the first
at_least : (low high b : ℕ) (runs : List Run) → AreRuns low high runs → has_block runs b ≡ true → low ≤ b
at_least low high b runs are its = elim (leb_tells low b) [ inl le ↦ le.1 | inr lt ↦ absurd (no_both (has_block runs b) its (none_below low high b runs are lt.1)) ]

-- and is below the last's end
at_most : (low high b : ℕ) (runs : List Run) → AreRuns low high runs → has_block runs b ≡ true → b < high
at_most low high b runs are its = elim (leb_tells (suc b) high) [ inl le ↦ le.1 | inr lt ↦ absurd (no_both (has_block runs b) its (none_above low high b runs are (omega (arith, lt.1)))) ]

-- the blocks of the runs at the front are below those of the others
pub in_order : (low high : ℕ) (front rest : List Run) (b c : ℕ) → AreRuns low high (front ++ rest)
    → has_block front b ≡ true → has_block rest c ≡ true → b < c
in_order low high [] rest b c are its other = cc
in_order low high (run ∷ front) rest b c are its other =
    elim (or_cases (in_run run b) (has_block front b) its) [
      | inl here ↦ (let all : has_block (front ++ rest) c ≡ true = has_block-append front rest c ∙ or_right (has_block front c) (has_block rest c) other in
          omega (arith, (run_bounds run b here).1, at_least (run.first + run.count + 1) high c (front ++ rest) are.3 all))
      | inr there ↦ in_order (run.first + run.count + 1) high front rest b c are.3 there other
    ]

out_bits : (f r : Bool) → (f ≡ true → r ≡ false) → r ≡ ((f || r) && not f)
out_bits true r fr = fr refl
out_bits false true fr = refl
out_bits false false fr = refl

not_both : (a : Bool) (P : Type 0) → (a ≡ true → P) → (P → ⊥) → a ≡ false
not_both true P to out = absurd (out (to refl))
not_both false P to out = refl

-- below those that were in use and those that are claimed
below_rest : (n b : ℕ) (old rest : List Run) → AreRuns 0 blocks rest → block_count rest + n ≡ block_count old
    → b < blocks → ((c : ℕ) → has_block rest c ≡ true → b < c) → b + block_count old < blocks + n
below_rest n b old [] are count high low = omega (arith, count, high)
below_rest n b old (run ∷ rest) are count high low =
    let few = few_blocks run.first blocks (run ∷ rest) (omega arith, are.1, are.2, are.3) in
    let here : in_run run run.first ≡ true = grind (arith, leb_tells run.first run.first, leb_tells (suc run.first) (run.first + run.count), are.1) in
    omega (arith, count, few, are.1, are.2, low run.first (or_left (in_run run run.first) (has_block rest run.first) here))

-- whole runs
pub claims_whole : (n : ℕ) (front rest : List Run) → AreRuns 0 blocks (front ++ rest) → block_count front ≡ n
    → Claims n (front ++ rest) rest front
claims_whole n front rest are count =
    let order = in_order 0 blocks front rest in
    let total : block_count rest + n ≡ block_count (front ++ rest) = omega (arith, block_count-append front rest, count) in
    record {
      count = count;
      free = λ b its. has_block-append front rest b ∙ or_left (has_block front b) (has_block rest b) its;
      rest = λ b. out_bits (has_block front b) (has_block rest b) (λ its. not_both (has_block rest b) (b < b) (order b b are its) (λ less. omega (arith, less)))
          ∙ ap (λ v. v && not (has_block front b)) (sym (has_block-append front rest b));
      lowest = λ b c its other. order b c are its other;
      fewest = runs_front 0 blocks front rest are;
      below = λ b its. below_rest n b (front ++ rest) rest (runs_rest 0 blocks front rest are) total
          (at_most 0 blocks b front (runs_front 0 blocks front rest are) its) (λ c other. order b c are its other);
    }

cut_bits : (f a b k : Bool) → (f ≡ true → (b || k) ≡ false) → (a ≡ true → (b || k) ≡ false)
    → (b || k) ≡ ((f || ((a || b) || k)) && not (f || a))
cut_bits true a b k fr ar = fr refl
cut_bits false true b k fr ar = ar refl
cut_bits false false true k fr ar = refl
cut_bits false false false true fr ar = refl
cut_bits false false false false fr ar = refl

-- Whole runs, and a part of the next.
module _ (n left : ℕ) (front : List Run) (run : Run) (back : List Run) (are : AreRuns 0 blocks (front ++ run ∷ back)) (some : 0 < left) (less : left < run.count)
    (count : block_count front + left ≡ n) where
  abbrev mine : Run
  mine = record { first = run.first; count = left }

  abbrev theirs : Run
  theirs = record { first = run.first + left; count = run.count - left }

  of : Parts 0 blocks front run back
  of = parts 0 blocks front run back are

  pub cut_rest : AreRuns 0 blocks (theirs ∷ back)
  cut_rest =
      let end : run.first + left + (run.count - left) ≡ run.first + run.count = omega (arith, less) in
      (omega arith, omega (arith, less), omega (arith, of.to, less), rw end of.behind)

  cut_front : AreRuns 0 blocks (front ++ mine ∷ [])
  cut_front = runs_joined 0 blocks front mine [] (record { before = of.before; from = of.from; some = some; to = omega (arith, of.to, less); behind = tt })

  cut_run : (b : ℕ) → in_run run b ≡ (in_run mine b || in_run theirs b)
  cut_run b =
      let sum : left + (run.count - left) ≡ run.count = omega (arith, less) in
      ap (λ m. in_run (record { first = run.first; count = m }) b) (sym sum) ∙ in_joined run.first left (run.count - left) b

  -- what is left of the run, or behind it
  later : (c : ℕ) → has_block (theirs ∷ back) c ≡ true → has_block (run ∷ back) c ≡ true
  later c other = elim (or_cases (in_run theirs c) (has_block back c) other) [
    | inl here ↦ or_left (in_run run c) (has_block back c) (cut_run c ∙ or_right (in_run mine c) (in_run theirs c) here)
    | inr there ↦ or_right (in_run run c) (has_block back c) there
  ]

  cut_order : (b c : ℕ) → has_block (front ++ mine ∷ []) b ≡ true → has_block (theirs ∷ back) c ≡ true → b < c
  cut_order b c its other = elim (or_cases (has_block front b) (in_run mine b) (sym (has_block-push front mine b) ∙ its)) [
    | inl before ↦ in_order 0 blocks front (run ∷ back) b c are before (later c other)
    | inr here ↦ (let bounds = run_bounds mine b here in
        elim (or_cases (in_run theirs c) (has_block back c) other) [
          | inl next ↦ omega (arith, bounds.1, (run_bounds theirs c next).0)
          | inr behind ↦ omega (arith, bounds.1, less, at_least (run.first + run.count + 1) blocks c back of.behind behind)
        ])
  ]

  pub cut_count : block_count (theirs ∷ back) + n ≡ block_count (front ++ run ∷ back)
  cut_count = omega (arith, block_count-append front (run ∷ back), count, less)

  pub claims_cut : Claims n (front ++ run ∷ back) (theirs ∷ back) (front ++ mine ∷ [])
  claims_cut = record {
    count = omega (arith, block_count-append front (mine ∷ []), count);
    free = λ b its. has_block-append front (run ∷ back) b ∙ (elim (or_cases (has_block front b) (in_run mine b) (sym (has_block-push front mine b) ∙ its)) [
      | inl before ↦ or_left (has_block front b) (has_block (run ∷ back) b) before
      | inr here ↦ or_right (has_block front b) (has_block (run ∷ back) b) (or_left (in_run run b) (has_block back b) (cut_run b ∙ or_left (in_run mine b) (in_run theirs b) here))
    ]);
    rest = λ b. (
        let apart : has_block (front ++ mine ∷ []) b ≡ true → has_block (theirs ∷ back) b ≡ false =
        λ its. not_both (has_block (theirs ∷ back) b) (b < b) (cut_order b b its) (λ less'. omega (arith, less')) in
        cut_bits (has_block front b) (in_run mine b) (in_run theirs b) (has_block back b)
        (λ f. apart (has_block-push front mine b ∙ or_left (has_block front b) (in_run mine b) f))
        (λ a. apart (has_block-push front mine b ∙ or_right (has_block front b) (in_run mine b) a))
        ∙ ap (λ v. (has_block front b || (v || has_block back b)) && not (has_block front b || in_run mine b)) (sym (cut_run b))
        ∙ ap (λ v. v && not (has_block front b || in_run mine b)) (sym (has_block-append front (run ∷ back) b))
        ∙ ap (λ v. has_block (front ++ run ∷ back) b && not v) (sym (has_block-push front mine b)));
    lowest = cut_order;
    fewest = cut_front;
    below = λ b its. below_rest n b (front ++ run ∷ back) (theirs ∷ back) cut_rest cut_count (at_most 0 blocks b (front ++ mine ∷ []) cut_front its) (λ c other. cut_order b c its other);
  }
