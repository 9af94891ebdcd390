-- Free runs, when one goes out of the list or comes into it.
use Rattle.std.proofs.Common.{◌≡◌, ◌≢◌, ℕ, zero, suc, ◌+◌, ◌-◌, ◌<◌, ◌≤◌, Bool, true, false, ◌||◌, not, List, [], ◌∷◌, ◌++◌, length, take, drop, get_or, refl, sym, ◌∙◌, ap, subst, inl, inr, arith, add-one}
use Rattle.std.specs.List.{insert, remove}
use Rattle.std.proofs.lemmas.List.{take-append-drop, take_more, take_at, drop_at, drop_all, length-take-le, length-append, length-drop}
use Rattle.std.proofs.lemmas.Bool.Decides.{leb_tells}
use Rattle.glacier_extents.specs.declared.run.Run.{Run}
use Rattle.glacier_extents.specs.Runs.{in_run, has_block, block_count, AreRuns}
use Rattle.glacier_extents.specs.FreeRuns.{blocks, most_runs, run_at, IsFit, IsFree, SameBlocks}
use Rattle.glacier_extents.proofs.RunLemmas.{has_block-append, block_count-append, cut_at, runs_wider, Parts, parts, parts_at, runs_joined, runs_to, runs_from, few_runs}

or_out : (a r c : Bool) → (a || (r || c)) ≡ ((a || c) || r)
or_out true r c = refl
or_out false true true = refl
or_out false true false = refl
or_out false false true = refl
or_out false false false = refl

or_true : (a : Bool) → (a || true) ≡ true
or_true true = refl
or_true false = refl

pub no_both : (a : Bool) → a ≡ true → a ≡ false → ⊥
no_both a is not = cc

-- one run went out
pub removed_block : (xs : List Run) (at : ℕ) (run : Run) (b : ℕ) → at < length xs → run ≡ get_or xs at run
    → has_block xs b ≡ (has_block (remove xs at) b || in_run run b)
removed_block xs at run b inside is =
    let whole : xs ≡ take at xs ++ run ∷ drop (at + 1) xs = cut_at xs at run inside ∙ ap (λ (r : Run). take at xs ++ r ∷ drop (at + 1) xs) (sym is) in
    ap (λ (ys : List Run). has_block ys b) whole ∙ has_block-append (take at xs) (run ∷ drop (at + 1) xs) b
    ∙ or_out (has_block (take at xs) b) (in_run run b) (has_block (drop (at + 1) xs) b)
    ∙ ap (λ v. v || in_run run b) (sym (has_block-append (take at xs) (drop (at + 1) xs) b) ∙ ap (λ n. has_block (take at xs ++ drop n xs) b) (add-one at))

pub removed_count : (xs : List Run) (at : ℕ) (run : Run) → at < length xs → run ≡ get_or xs at run
    → block_count xs ≡ block_count (remove xs at) + run.count
removed_count xs at run inside is =
    let whole : xs ≡ take at xs ++ run ∷ drop (at + 1) xs = cut_at xs at run inside ∙ ap (λ (r : Run). take at xs ++ r ∷ drop (at + 1) xs) (sym is) in
    let next : block_count (drop (at + 1) xs) ≡ block_count (drop (suc at) xs) = ap (λ n. block_count (drop n xs)) (add-one at) in
    omega (arith, ap block_count whole, block_count-append (take at xs) (run ∷ drop (at + 1) xs), block_count-append (take at xs) (drop (suc at) xs), next)

-- one run came in
pub inserted_block : (xs : List Run) (at : ℕ) (run : Run) (b : ℕ)
    → has_block (insert xs at run) b ≡ (has_block xs b || in_run run b)
inserted_block xs at run b =
    has_block-append (take at xs) (run ∷ drop at xs) b
    ∙ or_out (has_block (take at xs) b) (in_run run b) (has_block (drop at xs) b)
    ∙ ap (λ v. v || in_run run b) (sym (has_block-append (take at xs) (drop at xs) b) ∙ ap (λ (ys : List Run). has_block ys b) (take-append-drop at xs))

pub inserted_count : (xs : List Run) (at : ℕ) (run : Run) → block_count (insert xs at run) ≡ block_count xs + run.count
inserted_count xs at run =
    omega (arith, block_count-append (take at xs) (run ∷ drop at xs), block_count-append (take at xs) (drop at xs), ap block_count (take-append-drop at xs))

-- two runs that touch are one
pub in_joined : (first here more b : ℕ) → in_run (record { first = first; count = here + more }) b ≡ (in_run (record { first = first; count = here }) b || in_run (record { first = first + here; count = more }) b)
in_joined first here more b = grind (arith, leb_tells first b, leb_tells (suc b) (first + (here + more)), leb_tells (suc b) (first + here), leb_tells (first + here) b, leb_tells (suc b) (first + here + more))

or_swap : (a r s : Bool) → (a || (r || s)) ≡ ((a || s) || r)
or_swap true r s = refl
or_swap false true true = refl
or_swap false true false = refl
or_swap false false true = refl
or_swap false false false = refl

or_last : (a r s : Bool) → (a || (r || s)) ≡ ((a || r) || s)
or_last true r s = refl
or_last false r s = refl

-- a run is joined with the one that goes out, behind it or before it
pub joined_behind : (xs ys : List Run) (at : ℕ) (run next : Run) → at < length xs → next ≡ get_or xs at next
    → next.first ≡ run.first + run.count → ys ≡ remove xs at
    → SameBlocks xs run ys (record { first = run.first; count = run.count + next.count })
joined_behind xs ys at run next inside is touches are = record {
  blocks_are = λ b. (
      let out : has_block xs b ≡ (has_block ys b || in_run next b) = removed_block xs at next b inside is ∙ ap (λ (zs : List Run). has_block zs b || in_run next b) (sym are) in
      let both : in_run (record { first = run.first; count = run.count + next.count }) b ≡ (in_run run b || in_run next b) =
      in_joined run.first run.count next.count b ∙ ap (λ n. in_run run b || in_run (record { first = n; count = next.count }) b) (sym touches) in
      ap (λ v. has_block ys b || v) both ∙ or_swap (has_block ys b) (in_run run b) (in_run next b)
      ∙ ap (λ v. v || in_run run b) (sym out));
  count_is = omega (arith, removed_count xs at next inside is, ap block_count are);
}

pub joined_before : (xs ys : List Run) (at : ℕ) (run last : Run) → at < length xs → last ≡ get_or xs at last
    → last.first + last.count ≡ run.first → ys ≡ remove xs at
    → SameBlocks xs run ys (record { first = last.first; count = last.count + run.count })
joined_before xs ys at run last inside is touches are = record {
  blocks_are = λ b. (
      let out : has_block xs b ≡ (has_block ys b || in_run last b) = removed_block xs at last b inside is ∙ ap (λ (zs : List Run). has_block zs b || in_run last b) (sym are) in
      let both : in_run (record { first = last.first; count = last.count + run.count }) b ≡ (in_run last b || in_run run b) =
      in_joined last.first last.count run.count b ∙ ap (λ n. in_run last b || in_run (record { first = n; count = run.count }) b) touches in
      ap (λ v. has_block ys b || v) both ∙ or_last (has_block ys b) (in_run last b) (in_run run b)
      ∙ ap (λ v. v || in_run run b) (sym out));
  count_is = omega (arith, removed_count xs at last inside is, ap block_count are);
}

-- the last of the runs before a place
pub last_part : (low high at : ℕ) (xs : List Run) (last : Run) → AreRuns low high (take at xs) → 0 < at
    → at ≤ length xs → last ≡ get_or xs (at - 1) last
    → Parts low high (take (at - 1) xs) last []
last_part low high at xs last are some within is =
    let sum : at - 1 + 1 ≡ at = omega arith in
    let inside : at - 1 < length xs = omega arith in
    let whole : take at xs ≡ take (at - 1) xs ++ last ∷ [] =
    ap (λ n. take n xs) (sym sum) ∙ take_more xs (at - 1) last inside ∙ ap (λ (r : Run). take (at - 1) xs ++ r ∷ []) (sym is) in
    parts low high (take (at - 1) xs) last [] (subst (λ (ys : List Run). AreRuns low high ys) whole are)

-- those before a place end before a run that the last of them doesn't touch
apart_before : (at : ℕ) (xs : List Run) (last : Run) (end : ℕ) → Parts 0 end (take (at - 1) xs) last []
    → last.first + last.count ≢ end → 0 < at → at ≤ length xs
    → last ≡ get_or xs (at - 1) last → AreRuns 0 (end - 1) (take at xs)
apart_before at xs last end of differs some within is =
    let sum : at - 1 + 1 ≡ at = omega arith in
    let inside : at - 1 < length xs = omega arith in
    let whole : take at xs ≡ take (at - 1) xs ++ last ∷ [] =
    ap (λ n. take n xs) (sym sum) ∙ take_more xs (at - 1) last inside ∙ ap (λ (r : Run). take (at - 1) xs ++ r ∷ []) (sym is) in
    subst (λ (ys : List Run). AreRuns 0 (end - 1) ys) (sym whole)
    (runs_joined 0 (end - 1) (take (at - 1) xs) last [] (record { before = of.before; from = of.from; some = of.some; to = omega (arith, of.to, differs); behind = tt }))

-- a run that touches none of them
pub free_apart : (at : ℕ) (xs : List Run) (run last : Run) → IsFit at run xs
    → AreRuns (run.first + run.count + 1) blocks (drop at xs) → 0 < at
    → last ≡ get_or xs (at - 1) last → last.first + last.count ≢ run.first → IsFree at run xs
free_apart at xs run last fit gap some is differs = record {
  within = fit.within;
  some = fit.some;
  before = apart_before at xs last run.first (last_part 0 run.first at xs last fit.before some fit.within is) differs some fit.within is;
  behind = gap;
  high = fit.high;
}

pub free_first : (at : ℕ) (xs : List Run) (run : Run) → IsFit at run xs
    → AreRuns (run.first + run.count + 1) blocks (drop at xs) → at ≡ 0 → IsFree at run xs
free_first at xs run fit gap none = record {
  within = fit.within;
  some = fit.some;
  before = subst (λ n. AreRuns 0 (run.first - 1) (take n xs)) (sym none) tt;
  behind = gap;
  high = fit.high;
}

-- a list from which one went out, cut at its place
pub take-remove : (xs : List Run) (i : ℕ) → i < length xs → take i (remove xs i) ≡ take i xs
take-remove xs i inside = take_at (take i xs) (drop (suc i) xs) i (length-take-le i xs (omega arith))

pub drop-remove : (xs : List Run) (i : ℕ) → i < length xs → drop i (remove xs i) ≡ drop (suc i) xs
drop-remove xs i inside = drop_at (take i xs) (drop (suc i) xs) i (length-take-le i xs (omega arith))

pub length-remove : (xs : List Run) (i : ℕ) → i < length xs → length (remove xs i) + 1 ≡ length xs
length-remove xs i inside = omega (arith, length-append (take i xs) (drop (suc i) xs), length-take-le i xs (omega arith), length-drop (suc i) xs)

-- joined with the one before it
pub free_joined : (at : ℕ) (xs ys : List Run) (run last : Run) → IsFit at run xs
    → AreRuns (run.first + run.count + 1) blocks (drop at xs) → 0 < at
    → last ≡ get_or xs (at - 1) last → last.first + last.count ≡ run.first → ys ≡ remove xs (at - 1)
    → IsFree (at - 1) (record { first = last.first; count = last.count + run.count }) ys
free_joined at xs ys run last fit gap some is touches are =
    let inside : at - 1 < length xs = omega (arith, fit.within) in
    let of = last_part 0 run.first at xs last fit.before some fit.within is in
    let sum : suc (at - 1) ≡ at = omega arith in
    let front : take (at - 1) ys ≡ take (at - 1) xs = ap (take (at - 1)) are ∙ take-remove xs (at - 1) inside in
    let back : drop (at - 1) ys ≡ drop at xs = ap (drop (at - 1)) are ∙ drop-remove xs (at - 1) inside ∙ ap (λ n. drop n xs) sum in
    let end : run.first + run.count ≡ last.first + (last.count + run.count) = omega (arith, touches) in
    record {
      within = omega (arith, ap length are, length-remove xs (at - 1) inside);
      some = omega (arith, fit.some);
      before = rw front of.before;
      behind = rw (back, ← end) gap;
      high = omega (arith, end, fit.high);
    }

-- a block of one of the runs is free
pub block_of_run : (xs : List Run) (i b : ℕ) → i < length xs → in_run (run_at xs i) b ≡ true → has_block xs b ≡ true
block_of_run [] i b inside its = absurd (omega arith)
block_of_run (run ∷ xs) zero b inside its = rw its refl
block_of_run (run ∷ xs) (suc i) b inside its = rw (block_of_run xs i b (omega arith) its) (or_true (in_run run b))

pub in_own : (run : Run) (b : ℕ) → run.first ≤ b → b < run.first + run.count → in_run run b ≡ true
in_own run b low high = grind (arith, leb_tells run.first b, leb_tells (suc b) (run.first + run.count))

-- what begins at a place of the list, with blocks that aren't free
fit_before : (at : ℕ) (xs : List Run) (run : Run) → AreRuns 0 blocks xs → 0 < run.count
    → ((b : ℕ) → in_run run b ≡ true → has_block xs b ≡ false)
    → at ≤ length xs → (0 < at → (run_at xs (at - 1)).first < run.first) → AreRuns 0 run.first (take at xs)
fit_before zero xs run are some used within before = tt
fit_before (suc i) xs run are some used within before =
    let last : Run = run_at xs i in
    let same : suc i - 1 ≡ i = omega arith in
    let starts : last.first < run.first = rw same at (before (omega arith)) in
    let up_to : AreRuns 0 (last.first + last.count) (take (i + 1) xs) = runs_to 0 blocks xs i (record { first = 0; count = 0 }) (omega arith) are in
    let out : has_block xs run.first ≡ false = used run.first (in_own run run.first (omega arith) (omega arith)) in
    let ends : last.first + last.count ≤ run.first = elim (leb_tells (last.first + last.count) run.first) [
      | inl le ↦ le.1
      | inr lt ↦ absurd (let free : has_block xs run.first ≡ true = block_of_run xs i run.first (omega arith) (in_own last run.first (omega arith) lt.1) in no_both (has_block xs run.first) free out)
    ] in
    runs_wider 0 (last.first + last.count) 0 run.first (take (suc i) xs) (omega arith) ends (subst (λ n. AreRuns 0 (last.first + last.count) (take n xs)) (add-one i) up_to)

fit_behind : (at : ℕ) (xs : List Run) (run : Run) → AreRuns 0 blocks xs → 0 < run.count
    → ((b : ℕ) → in_run run b ≡ true → has_block xs b ≡ false)
    → at ≤ length xs → (at < length xs → run.first ≤ (run_at xs at).first)
    → AreRuns (run.first + run.count) blocks (drop at xs)
fit_behind at xs run are some used within behind =
    elim (leb_tells (suc at) (length xs)) [
      | inl less ↦ (let next : Run = run_at xs at in
          let of = parts_at 0 blocks xs at (record { first = 0; count = 0 }) less.1 are in
          let from : AreRuns next.first blocks (drop at xs) = runs_from 0 blocks xs at (record { first = 0; count = 0 }) less.1 are in
          let begins : run.first + run.count ≤ next.first = elim (leb_tells (run.first + run.count) next.first) [
            | inl le ↦ le.1
            | inr lt ↦ absurd (let free : has_block xs next.first ≡ true = block_of_run xs at next.first less.1 (in_own next next.first (omega arith) (omega (arith, of.some))) in
                no_both (has_block xs next.first) free (used next.first (in_own run next.first (behind less.1) lt.1)))
          ] in
          runs_wider next.first blocks (run.first + run.count) blocks (drop at xs) begins (omega arith) from)
      | inr past ↦ (let none : drop at xs ≡ [] = drop_all at xs (omega (arith, past.1)) in rw none tt)
    ]

pub fit_at : (at : ℕ) (xs : List Run) (run : Run) → AreRuns 0 blocks xs → 0 < run.count
    → run.first + run.count ≤ blocks → ((b : ℕ) → in_run run b ≡ true → has_block xs b ≡ false)
    → at ≤ length xs → (0 < at → (run_at xs (at - 1)).first < run.first)
    → (at < length xs → run.first ≤ (run_at xs at).first) → IsFit at run xs
fit_at at xs run are some high used within before behind = record {
  within = within;
  some = some;
  high = high;
  before = fit_before at xs run are some used within before;
  behind = fit_behind at xs run are some used within behind;
}

-- the list with a free run in its place
pub inserted_runs : (at : ℕ) (xs : List Run) (run : Run) → IsFree at run xs → AreRuns 0 blocks (insert xs at run)
inserted_runs at xs run fits = runs_joined 0 blocks (take at xs) run (drop at xs)
    (record { before = fits.before; from = omega arith; some = fits.some; to = fits.high; behind = fits.behind })

pub room_for : (at : ℕ) (xs : List Run) (run : Run) → IsFree at run xs → length xs < most_runs
room_for at xs run fits =
    let few = few_runs 0 blocks (insert xs at run) (inserted_runs at xs run fits) (omega arith) in
    omega (arith, few, length-append (take at xs) (run ∷ drop at xs), ap length (take-append-drop at xs), length-append (take at xs) (drop at xs))

-- from one list to the next
pub same_blocks_on : (first second : List Run) (at : ℕ) (run joined last : Run) (third : List Run)
    → SameBlocks first run second joined → SameBlocks second joined third last
    → (b : ℕ) → has_block (insert third at last) b ≡ (has_block first b || in_run run b)
same_blocks_on first second at run joined last third one two b = inserted_block third at last b ∙ two.blocks_are b ∙ one.blocks_are b

pub same_count_on : (first second : List Run) (at : ℕ) (run joined last : Run) (third : List Run)
    → SameBlocks first run second joined → SameBlocks second joined third last
    → block_count (insert third at last) ≡ block_count first + run.count
same_count_on first second at run joined last third one two = omega (arith, inserted_count third at last, two.count_is, one.count_is)
