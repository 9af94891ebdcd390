-- Runs that are taken out of the free ones, one after another, or given back.
use Rattle.std.proofs.Common.{◌≡◌, ℕ, ◌+◌, ◌<◌, Bool, true, false, ◌&&◌, ◌||◌, not, List, [], ◌∷◌, ◌++◌, length, take, drop, get_or, refl, sym, ◌∙◌, ap, subst, arith}
use Rattle.std.proofs.lemmas.List.{take_more}
use Rattle.glacier_extents.specs.declared.run.Run.{Run}
use Rattle.glacier_extents.specs.Runs.{in_run, has_block, block_count, AreRuns, AreDistinct}
use Rattle.glacier_extents.specs.FreeRuns.{blocks, IsRun, AllFree, AllIn}
use Rattle.glacier_extents.proofs.RunLemmas.{has_block-append, block_count-append, cut_at}
use Rattle.glacier_extents.proofs.FreeLemmas.{no_both}
use Rattle.glacier_extents.proofs.SetLemmas.{same_runs}

or_last : (a b : Bool) → (a || (b || false)) ≡ (a || b)
or_last true b = refl
or_last false true = refl
or_last false false = refl

-- what one run more has
pub has_block-push : (xs : List Run) (run : Run) (b : ℕ)
    → has_block (xs ++ run ∷ []) b ≡ (has_block xs b || in_run run b)
has_block-push xs run b = has_block-append xs (run ∷ []) b ∙ or_last (has_block xs b) (in_run run b)

or_false : (a b : Bool) → (a || b) ≡ false → (a ≡ false) × (b ≡ false)
or_false true b h = cc
or_false false b h = (refl, h)

and_bits : (o t i : Bool) → ((o && not t) && not i) ≡ (o && not (t || i))
and_bits true true i = refl
and_bits true false i = refl
and_bits false t i = refl

and_true : (a b : Bool) → (a && b) ≡ true → (a ≡ true) × (b ≡ true)
and_true true b h = (refl, h)
and_true false b h = cc

not_true : (a : Bool) → not a ≡ true → a ≡ false
not_true true h = cc
not_true false h = refl

flips : (a : Bool) → a ≡ true → not a ≡ false
flips a is = ap not is

-- distinct runs, and one more
pub distinct_push : (xs : List Run) (run : Run) → AreDistinct blocks xs → IsRun run
    → ((b : ℕ) → in_run run b ≡ true → has_block xs b ≡ false) → AreDistinct blocks (xs ++ run ∷ [])
distinct_push [] run distinct is apart = (is.0, is.1, λ b its. refl, tt)
distinct_push (x ∷ xs) run distinct is apart = (
  distinct.0,
  distinct.1,
  λ b its. has_block-push xs run b ∙ rw (distinct.2 b its) (not_in xs run x apart b its),
  distinct_push xs run distinct.3 is (λ b its. (or_false (in_run x b) (has_block xs b) (apart b its)).1),
)
  where
    not_in : (xs : List Run) (run x : Run) → ((b : ℕ) → in_run run b ≡ true → has_block (x ∷ xs) b ≡ false) → (b : ℕ)
        → in_run x b ≡ true → in_run run b ≡ false
    not_in xs run x apart b its = elim (in_run run b) as (λ v. in_run run b ≡ v → v ≡ false) [
      | true ↦ (λ e. absurd (no_both (in_run x b) its (or_false (in_run x b) (has_block xs b) (apart b e)).0))
      | false ↦ (λ e. refl)
    ] refl

-- one of distinct runs
pub distinct_at : (front : List Run) (run : Run) (back : List Run) → AreDistinct blocks (front ++ run ∷ back)
    → IsRun run × ((b : ℕ) → in_run run b ≡ true → has_block front b ≡ false)
distinct_at [] run back distinct = ((distinct.0, distinct.1), λ b its. refl)
distinct_at (x ∷ front) run back distinct =
    let rest = distinct_at front run back distinct.3 in (
      rest.0,
      λ b its. (let out : in_run x b ≡ false = elim (in_run x b) as (λ v. in_run x b ≡ v → v ≡ false) [
        | true ↦ (λ e. absurd (no_both (has_block (front ++ run ∷ back) b) (has_block-append front (run ∷ back) b ∙ rw (rest.1 b its, its) refl) (distinct.2 b e)))
        | false ↦ (λ e. refl)
      ] refl in rw (out, rest.1 b its) refl),
    )

-- The next of some runs, after those before it were taken out.
module _ (runs old free : List Run) (i : ℕ) (run : Run) (inside : i < length runs) (is : run ≡ get_or runs i run)
    (distinct : AreDistinct blocks (take i runs)) (all : AllIn old (take i runs))
    (rest : (b : ℕ) → has_block free b ≡ (has_block old b && not (has_block (take i runs) b))) where
  next : take (i + 1) runs ≡ take i runs ++ run ∷ []
  next = take_more runs i run inside ∙ ap (λ (r : Run). take i runs ++ r ∷ []) (sym is)

  whole : runs ≡ take i runs ++ run ∷ drop (i + 1) runs
  whole = cut_at runs i run inside ∙ ap (λ (r : Run). take i runs ++ r ∷ drop (i + 1) runs) (sym is)

  -- what was taken out isn't free
  pub taken_used : (b : ℕ) → has_block (take i runs) b ≡ true → has_block free b ≡ false
  taken_used b its = rest b ∙ rw its (and_false (has_block old b))
    where
      and_false : (a : Bool) → (a && false) ≡ false
      and_false true = refl
      and_false false = refl

  -- where the next was taken out too
  pub marked_distinct : IsRun run → AllFree free run → AreDistinct blocks (take (i + 1) runs)
  marked_distinct good its = rw next (distinct_push (take i runs) run distinct good
      (λ b mine. not_true (has_block (take i runs) b) (and_true (has_block old b) (not (has_block (take i runs) b)) (sym (rest b) ∙ its b mine)).1))

  pub marked_all : AllFree free run → AllIn old (take (i + 1) runs)
  marked_all its b mine =
      let or : (has_block (take i runs) b || in_run run b) ≡ true = sym (has_block-push (take i runs) run b) ∙ sym (ap (λ (rs : List Run). has_block rs b) next) ∙ mine in
      elim (has_block (take i runs) b) as (λ v. has_block (take i runs) b ≡ v → has_block old b ≡ true) [
        | true ↦ (λ e. all b e)
        | false ↦ (λ e. (and_true (has_block old b) (not (has_block (take i runs) b)) (sym (rest b) ∙ its b (sym (ap (λ v. v || in_run run b) e) ∙ or))).0)
      ] refl

  pub marked_rest : (new : List Run) → ((b : ℕ) → has_block new b ≡ (has_block free b && not (in_run run b)))
      → (b : ℕ) → has_block new b ≡ (has_block old b && not (has_block (take (i + 1) runs) b))
  marked_rest new step b =
      step b ∙ ap (λ v. v && not (in_run run b)) (rest b)
      ∙ and_bits (has_block old b) (has_block (take i runs) b) (in_run run b)
      ∙ ap (λ v. has_block old b && not v) (sym (has_block-push (take i runs) run b) ∙ sym (ap (λ (rs : List Run). has_block rs b) next))

  pub marked_count : block_count (take (i + 1) runs) ≡ block_count (take i runs) + run.count
  marked_count = omega (arith, ap block_count next, block_count-append (take i runs) (run ∷ []))

  -- distinct blocks that are all free are free when their turn comes
  pub would_fit : AreDistinct blocks runs → AllIn old runs → IsRun run × AllFree free run
  would_fit good every =
      let here = distinct_at (take i runs) run (drop (i + 1) runs) (subst (λ (rs : List Run). AreDistinct blocks rs) whole good) in (
        here.0,
        λ b mine. (
            let in_all : has_block runs b ≡ true = ap (λ (rs : List Run). has_block rs b) whole ∙ has_block-append (take i runs) (run ∷ drop (i + 1) runs) b ∙ rw (here.1 b mine, mine) refl in
            rest b ∙ rw (every b in_all, here.1 b mine) refl),
      )

-- what was taken out, given back
pub given_back : (old free new taken : List Run) → AreRuns 0 blocks old → AreRuns 0 blocks new → AllIn old taken
    → ((b : ℕ) → has_block free b ≡ (has_block old b && not (has_block taken b)))
    → ((b : ℕ) → has_block new b ≡ (has_block free b || has_block taken b)) → new ≡ old
given_back old free new taken are too all rest back = same_runs 0 blocks new old too are (λ b. back b ∙ ap (λ v. v || has_block taken b) (rest b) ∙ bits (has_block old b) (has_block taken b) (all b))
  where
    bits : (o t : Bool) → (t ≡ true → o ≡ true) → ((o && not t) || t) ≡ o
    bits true true h = refl
    bits true false h = refl
    bits false true h = sym (h refl)
    bits false false h = refl
