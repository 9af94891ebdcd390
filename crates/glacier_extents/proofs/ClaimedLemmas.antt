-- What a claim leaves, by how many whole runs it takes.
use Rattle.std.proofs.Common.{◌≡◌, ℕ, suc, ◌+◌, ◌<◌, ◌≤◌, List, [], ◌∷◌, ◌++◌, length, take, drop, sym, ◌∙◌, ap, ap₂, subst, inl, inr, arith}
use Rattle.std.proofs.lemmas.Bool.Decides.{leb_tells}
use Rattle.std.proofs.lemmas.List.{take-append-drop, take_all, drop_more}
use Rattle.glacier_extents.specs.declared.run.Run.{Run}
use Rattle.glacier_extents.specs.Runs.{block_count, AreRuns}
use Rattle.glacier_extents.specs.FreeRuns.{blocks, run_at, cut_run, IsLowest, Claims}
use Rattle.glacier_extents.proofs.RunLemmas.{block_count-append, cut_at}
use Rattle.glacier_extents.proofs.ClaimLemmas.{claims_whole, claims_cut, cut_rest, cut_count, runs_rest}

-- the n lowest blocks were taken out, and the rest is left
pub record IsClaimed (n : ℕ) (old new claimed : List Run) : Type 0 where
  pub claims : Claims n old new claimed
  pub count : block_count new + n ≡ block_count old
  pub runs : AreRuns 0 blocks new

-- where blocks are left over, so is a run
pub run_left : (n whole left : ℕ) (old : List Run) → n ≤ block_count old → whole ≤ length old
    → block_count (take whole old) + left ≡ n → 0 < left → whole < length old
run_left n whole left old enough within count some = elim (leb_tells (suc whole) (length old)) [
  | inl less ↦ less.1
  | inr past ↦ absurd (let all : block_count (take whole old) ≡ block_count old = ap block_count (take_all whole old (omega (arith, past.1))) in omega (arith, all, count, enough, some))
]

pub claimed_whole : (n whole left : ℕ) (old new claimed : List Run) → AreRuns 0 blocks old
    → IsLowest n old claimed whole left → new ≡ drop whole old → left ≡ 0 → IsClaimed n old new claimed
claimed_whole n whole left old new claimed are low rest none =
    let cut : take whole old ++ drop whole old ≡ old = take-append-drop whole old in
    let count' : block_count (take whole old) ≡ n = omega (arith, low.count, none) in
    let are' : AreRuns 0 blocks (take whole old ++ drop whole old) = rw cut are in
    let made : IsClaimed n (take whole old ++ drop whole old) (drop whole old) (take whole old) = record {
      claims = claims_whole n (take whole old) (drop whole old) are' count';
      count = omega (arith, block_count-append (take whole old) (drop whole old), count');
      runs = runs_rest 0 blocks (take whole old) (drop whole old) are';
    } in
    rw (rest, low.all none) (rw cut at made)

-- what is left of the list then begins with the run that is cut
pub next_run : (whole : ℕ) (old mid : List Run) → mid ≡ drop whole old → whole < length old
    → mid ≡ run_at old whole ∷ drop (whole + 1) old
next_run whole old mid is inside = is ∙ drop_more old whole (record { first = 0; count = 0 }) inside

pub claimed_cut : (n whole left : ℕ) (old mid new claimed : List Run) → AreRuns 0 blocks old
    → IsLowest n old claimed whole left → 0 < left
    → mid ≡ drop whole old → new ≡ cut_run left (run_at mid 0) ∷ drop 1 mid → IsClaimed n old new claimed
claimed_cut n whole left old mid new claimed are low some mid_is new_is =
    let none : Run = record { first = 0; count = 0 } in
    let inside = low.more some in
    let run : Run = run_at old whole in
    let back : List Run = drop (whole + 1) old in
    let mid' : mid ≡ run ∷ back = next_run whole old mid mid_is inside in
    let first : run_at mid 0 ≡ run = ap (λ (ms : List Run). run_at ms 0) mid' in
    let rest : drop 1 mid ≡ back = ap (λ (ms : List Run). drop 1 ms) mid' in
    let new' : new ≡ cut_run left run ∷ back = new_is ∙ ap₂ (λ (r : Run) (rs : List Run). cut_run left r ∷ rs) first rest in
    let whole' : old ≡ take whole old ++ run ∷ back = cut_at old whole none inside in
    let are' : AreRuns 0 blocks (take whole old ++ run ∷ back) = subst (λ (rs : List Run). AreRuns 0 blocks rs) whole' are in
    let made : IsClaimed n (take whole old ++ run ∷ back) (cut_run left run ∷ back) (take whole old ++ record { first = run.first; count = left } ∷ []) = record {
      claims = claims_cut n left (take whole old) run back are' some (low.less some) low.count;
      count = cut_count n left (take whole old) run back are' some (low.less some) low.count;
      runs = cut_rest n left (take whole old) run back are' some (low.less some) low.count;
    } in
    rw (new', low.part some) (subst (λ (rs : List Run). IsClaimed n rs (cut_run left run ∷ back) (take whole old ++ record { first = run.first; count = left } ∷ [])) (sym whole') made)
