-- A run that is taken out of the free ones.
use Rattle.std.proofs.Common.{◌≡◌, ℕ, suc, ◌+◌, ◌-◌, ◌<◌, ◌≤◌, Bool, true, false, ◌&&◌, ◌||◌, not, nat_lt, List, [], ◌∷◌, ◌++◌, length, take, drop, get_or, refl, sym, ◌∙◌, ap, subst, inl, inr, arith, add-one}
use Rattle.std.specs.List.{remove}
use Rattle.std.proofs.lemmas.Bool.Decides.{leb_tells}
use Rattle.std.proofs.lemmas.List.{drop_all}
use Rattle.glacier_extents.specs.declared.run.Run.{Run}
use Rattle.glacier_extents.specs.Runs.{in_run, has_block, AreRuns}
use Rattle.glacier_extents.specs.FreeRuns.{blocks, run_at, AllFree, IsWithin, IsFree}
use Rattle.glacier_extents.proofs.RunLemmas.{has_block-append, cut_at, runs_wider, Parts, parts_at, runs_from, none_below, none_above}
use Rattle.glacier_extents.proofs.FreeLemmas.{block_of_run, in_own, no_both, removed_block, take-remove, drop-remove, length-remove}

-- an empty run has no block
pub in_empty : (run : Run) (b : ℕ) → run.count ≡ 0 → in_run run b ≡ false
in_empty run b none = elim (leb_tells run.first b) [
  | inl low ↦ (let past : nat_lt b (run.first + run.count) ≡ false = grind (arith, leb_tells (suc b) (run.first + run.count)) in rw (low.0, past) refl)
  | inr above ↦ rw above.0 refl
]

or_none : (a : Bool) → (a || false) ≡ a
or_none true = refl
or_none false = refl

pub nothing_in : (xs : List Run) (run : Run) (b : ℕ) → run.count ≡ 0 → has_block xs b ≡ (has_block xs b || in_run run b)
nothing_in xs run b none = sym (ap (λ v. has_block xs b || v) (in_empty run b none) ∙ or_none (has_block xs b))

-- those from a place on
pub from_place : (low at : ℕ) (xs : List Run) → AreRuns 0 blocks xs → (at < length xs → low ≤ (run_at xs at).first)
    → AreRuns low blocks (drop at xs)
from_place low at xs are behind =
    elim (leb_tells (suc at) (length xs)) [
      | inl less ↦ runs_wider (run_at xs at).first blocks low blocks (drop at xs) (behind less.1) (omega arith) (runs_from 0 blocks xs at (record { first = 0; count = 0 }) less.1 are)
      | inr past ↦ (let none : drop at xs ≡ [] = drop_all at xs (omega (arith, past.1)) in rw none tt)
    ]

-- a block between one run and the next is in none
pub gap_block : (at b : ℕ) (xs : List Run) (holder : Run) → AreRuns 0 blocks xs → at < length xs
    → holder ≡ get_or xs at holder → holder.first + holder.count ≤ b
    → AreRuns (b + 1) blocks (drop (at + 1) xs) → has_block xs b ≡ false
gap_block at b xs holder are inside is ends behind =
    let of : Parts 0 blocks (take at xs) holder (drop (at + 1) xs) = subst (λ (r : Run). Parts 0 blocks (take at xs) r (drop (at + 1) xs)) (sym is) (parts_at 0 blocks xs at holder inside are) in
    let front : has_block (take at xs) b ≡ false = none_above 0 (holder.first - 1) b (take at xs) of.before (omega (arith, ends)) in
    let back : has_block (drop (at + 1) xs) b ≡ false = none_below (b + 1) blocks b (drop (at + 1) xs) behind (omega arith) in
    let here : in_run holder b ≡ false = grind (arith, leb_tells (suc b) (holder.first + holder.count), leb_tells holder.first b, ends) in
    let whole : xs ≡ take at xs ++ holder ∷ drop (at + 1) xs = cut_at xs at holder inside ∙ ap (λ (r : Run). take at xs ++ r ∷ drop (at + 1) xs) (sym is) in
    ap (λ (ys : List Run). has_block ys b) whole ∙ has_block-append (take at xs) (holder ∷ drop (at + 1) xs) b
    ∙ rw (front, here, back) refl

-- where no run begins at a block or before it, it isn't free
pub none_first : (xs : List Run) (run : Run) → AreRuns 0 blocks xs
    → (0 < length xs → run.first + 1 ≤ (run_at xs 0).first) → 0 < run.count → AllFree xs run → ⊥
none_first xs run are behind some all =
    no_both (has_block xs run.first) (all run.first (in_own run run.first (omega arith) (omega arith)))
    (none_below (run.first + 1) blocks run.first xs (from_place (run.first + 1) 0 xs are behind) (omega arith))

-- where the last that does ends before the run's end, not all its blocks are free
pub none_held : (xs : List Run) (at : ℕ) (run holder : Run) → AreRuns 0 blocks xs → at < length xs
    → holder ≡ get_or xs at holder → holder.first ≤ run.first
    → (at + 1 < length xs → run.first + 1 ≤ (run_at xs (at + 1)).first) → 0 < run.count
    → holder.first + holder.count < run.first + run.count → AllFree xs run → ⊥
none_held xs at run holder are inside is begins behind some ends all =
    elim (leb_tells (holder.first + holder.count) run.first) [
      | inl before ↦ no_both (has_block xs run.first) (all run.first (in_own run run.first (omega arith) (omega arith)))
          (gap_block at run.first xs holder are inside is before.1 (from_place (run.first + 1) (at + 1) xs are behind))
      | inr within ↦ (let of : Parts 0 blocks (take at xs) holder (drop (at + 1) xs) = subst (λ (r : Run). Parts 0 blocks (take at xs) r (drop (at + 1) xs)) (sym is) (parts_at 0 blocks xs at holder inside are) in
          no_both (has_block xs (holder.first + holder.count)) (all (holder.first + holder.count) (in_own run (holder.first + holder.count) (omega (arith, within.1)) ends))
          (gap_block at (holder.first + holder.count) xs holder are inside is (omega arith) of.behind))
    ]

-- without one of them
pub runs_without : (low high : ℕ) (front : List Run) (run : Run) (back : List Run)
    → AreRuns low high (front ++ run ∷ back) → AreRuns low high (front ++ back)
runs_without low high [] run back are = runs_wider (run.first + run.count + 1) high low high back (omega (arith, are.0)) (omega arith) are.3
runs_without low high (first ∷ front) run back are = (are.0, are.1, are.2, runs_without (first.first + first.count + 1) high front run back are.3)

-- what the test of a block tells
pub run_bounds : (run : Run) (b : ℕ) → in_run run b ≡ true → (run.first ≤ b) × (b < run.first + run.count)
run_bounds run b its = elim (leb_tells run.first b) [
  | inl low ↦ (elim (leb_tells (suc b) (run.first + run.count)) [
    | inl high ↦ (low.1, high.1)
    | inr past ↦ absurd (no_both (in_run run b) its (rw (low.0, past.0) refl))
  ])
  | inr above ↦ absurd (no_both (in_run run b) its (rw above.0 refl))
]

pub below_out : (run : Run) (b : ℕ) → b < run.first → in_run run b ≡ false
below_out run b less = elim (leb_tells run.first b) [ inl low ↦ absurd (omega (arith, low.1, less)) | inr above ↦ rw above.0 refl ]

pub above_out : (run : Run) (b : ℕ) → run.first + run.count ≤ b → in_run run b ≡ false
above_out run b past = elim (leb_tells run.first b) [
  | inl low ↦ (elim (leb_tells (suc b) (run.first + run.count)) [
    | inl high ↦ absurd (omega (arith, high.1, past))
    | inr out ↦ rw (low.0, out.0) refl
  ])
  | inr above ↦ rw above.0 refl
]

-- a test of what is left of a run, of which a part goes out
cut_bits : (p d r t : Bool) → (r ≡ true → t ≡ false) → (r ≡ true → d ≡ false) → (p ≡ true → ((d || r) || t) ≡ false)
    → ((p || t) || d) ≡ ((p || ((d || r) || t)) && not r)
cut_bits p true true t rt rd ph = absurd (no_both true refl (rd refl))
cut_bits p false true true rt rd ph = absurd (no_both true refl (rt refl))
cut_bits true false true false rt rd ph = absurd (no_both true refl (ph refl))
cut_bits false false true false rt rd ph = refl
cut_bits true true false t rt rd ph = absurd (no_both true refl (ph refl))
cut_bits false true false true rt rd ph = refl
cut_bits false true false false rt rd ph = refl
cut_bits true false false true rt rd ph = absurd (no_both true refl (ph refl))
cut_bits true false false false rt rd ph = refl
cut_bits false false false true rt rd ph = refl
cut_bits false false false false rt rd ph = refl

-- What is left of a run from which another is cut out.
module _ (xs : List Run) (at : ℕ) (run holder : Run) (are : AreRuns 0 blocks xs) (inside : at < length xs)
    (is : holder ≡ get_or xs at holder) where
  pub holder_parts : Parts 0 blocks (take at xs) holder (drop (at + 1) xs)
  holder_parts = subst (λ (r : Run). Parts 0 blocks (take at xs) r (drop (at + 1) xs)) (sym is) (parts_at 0 blocks xs at holder inside are)

  back_is : drop (at + 1) xs ≡ drop (suc at) xs
  back_is = ap (λ n. drop n xs) (add-one at)

  whole : xs ≡ take at xs ++ holder ∷ drop (at + 1) xs
  whole = cut_at xs at holder inside ∙ ap (λ (r : Run). take at xs ++ r ∷ drop (at + 1) xs) (sym is)

  pub out_runs : AreRuns 0 blocks (remove xs at)
  out_runs = subst (λ (ys : List Run). AreRuns 0 blocks (take at xs ++ ys)) back_is
      (runs_without 0 blocks (take at xs) holder (drop (at + 1) xs) (subst (λ (ys : List Run). AreRuns 0 blocks ys) whole are))

  -- the blocks of the holder are in no other
  pub only_holder : (b : ℕ) → has_block (remove xs at) b ≡ true → in_run holder b ≡ false
  only_holder b others =
      let split : has_block (remove xs at) b ≡ (has_block (take at xs) b || has_block (drop (at + 1) xs) b) =
      has_block-append (take at xs) (drop (suc at) xs) b ∙ ap (λ (ys : List Run). has_block (take at xs) b || has_block ys b) (sym back_is) in
      elim (leb_tells holder.first b) [
        | inl low ↦ (elim (leb_tells (suc b) (holder.first + holder.count)) [
          | inl high ↦ absurd (let front : has_block (take at xs) b ≡ false = none_above 0 (holder.first - 1) b (take at xs) holder_parts.before (omega (arith, low.1)) in
              let back : has_block (drop (at + 1) xs) b ≡ false = none_below (holder.first + holder.count + 1) blocks b (drop (at + 1) xs) holder_parts.behind (omega (arith, high.1)) in
              let none : has_block (remove xs at) b ≡ false = split ∙ rw (front, back) refl in
              no_both (has_block (remove xs at) b) others none)
          | inr past ↦ rw (low.0, past.0) refl
        ])
        | inr above ↦ rw above.0 refl
      ]

  module _ (held : IsWithin run holder) (some : 0 < run.count) (ys : List Run) (out : ys ≡ remove xs at) where
    abbrev tail : Run
    tail = record { first = run.first + run.count; count = holder.first + holder.count - (run.first + run.count) }

    abbrev head : Run
    head = record { first = holder.first; count = run.first - holder.first }

    front_is : take at ys ≡ take at xs
    front_is = ap (take at) out ∙ take-remove xs at inside

    rest_is : drop at ys ≡ drop (at + 1) xs
    rest_is = ap (drop at) out ∙ drop-remove xs at inside ∙ sym back_is

    pub tail_within : at ≤ length ys
    tail_within = omega (arith, ap length out, length-remove xs at inside)

    pub tail_free : 0 < tail.count → IsFree at tail ys
    tail_free more = record {
      within = tail_within;
      some = more;
      before = rw front_is (runs_wider 0 (holder.first - 1) 0 (tail.first - 1) (take at xs) (omega arith) (omega (arith, held.0)) holder_parts.before);
      behind = rw rest_is (runs_wider (holder.first + holder.count + 1) blocks (tail.first + tail.count + 1) blocks (drop (at + 1) xs) (omega (arith, held.1)) (omega arith) holder_parts.behind);
      high = omega (arith, held.1, holder_parts.to);
    }

    pub head_free : (zs : List Run) → at ≤ length zs → take at zs ≡ take at ys
        → ((low : ℕ) → low ≤ tail.first → AreRuns low blocks (drop at ys) → AreRuns low blocks (drop at zs))
        → 0 < head.count → IsFree at head zs
    head_free zs within front back more =
        let end : head.first + head.count ≡ run.first = omega (arith, held.0) in
        record {
          within = within;
          some = more;
          before = rw (front ∙ front_is) holder_parts.before;
          behind = rw end (back (run.first + 1) (omega (arith, some)) (rw rest_is (runs_wider (holder.first + holder.count + 1) blocks (run.first + 1) blocks (drop (at + 1) xs) (omega (arith, held.1)) (omega arith) holder_parts.behind)));
          high = omega (arith, held.0, holder_parts.to);
        }

    bits : (b : ℕ) → in_run holder b ≡ ((in_run head b || in_run run b) || in_run tail b)
    bits b = grind (
      arith,
      held.0,
      held.1,
      leb_tells holder.first b,
      leb_tells (suc b) (holder.first + holder.count),
      leb_tells (suc b) (holder.first + (run.first - holder.first)),
      leb_tells run.first b,
      leb_tells (suc b) (run.first + run.count),
      leb_tells (run.first + run.count) b,
      leb_tells (suc b) (run.first + run.count + (holder.first + holder.count - (run.first + run.count))),
    )

    pub cut_blocks : (us vs : List Run) → ((b : ℕ) → has_block us b ≡ (has_block ys b || in_run tail b))
        → ((b : ℕ) → has_block vs b ≡ (has_block us b || in_run head b))
        → (b : ℕ) → has_block vs b ≡ (has_block xs b && not (in_run run b))
    cut_blocks us vs one two b =
        let p : Bool = has_block ys b in
        let left : has_block vs b ≡ ((p || in_run tail b) || in_run head b) = two b ∙ ap (λ v. v || in_run head b) (one b) in
        let right : has_block xs b ≡ (p || ((in_run head b || in_run run b) || in_run tail b)) =
        removed_block xs at holder b inside is ∙ ap (λ (zs : List Run). has_block zs b || in_run holder b) (sym out) ∙ ap (λ v. p || v) (bits b) in
        left ∙ cut_bits p (in_run head b) (in_run run b) (in_run tail b)
        (λ r. below_out tail b (run_bounds run b r).1)
        (λ r. above_out head b (omega (arith, held.0, (run_bounds run b r).0)))
        (λ others. sym (bits b) ∙ only_holder b (ap (λ (zs : List Run). has_block zs b) (sym out) ∙ others))
        ∙ ap (λ v. v && not (in_run run b)) (sym right)

-- the blocks of a run that one of the free ones has are free
pub all_held : (xs : List Run) (at : ℕ) (run : Run) → at < length xs → IsWithin run (run_at xs at) → AllFree xs run
all_held xs at run inside held b its =
    let bounds = run_bounds run b its in
    block_of_run xs at b inside (in_own (run_at xs at) b (omega (arith, held.0, bounds.0)) (omega (arith, held.1, bounds.1)))
