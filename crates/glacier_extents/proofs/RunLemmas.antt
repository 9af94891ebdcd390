-- Runs in rising order, cut and joined.
use Rattle.std.proofs.Common.{◌≡◌, ℕ, ◌+◌, ◌-◌, ◌*◌, ◌<◌, ◌≤◌, Bool, true, false, ◌||◌, List, [], ◌∷◌, ◌++◌, length, take, drop, get_or, refl, sym, ◌∙◌, ap, subst, arith}
use Rattle.std.proofs.lemmas.Bool.Decides.{nat_tests}
use Rattle.std.proofs.lemmas.List.{take-append-drop, drop_more, take_more}
use Rattle.glacier_extents.specs.declared.run.Run.{Run}
use Rattle.glacier_extents.specs.Runs.{in_run, has_block, block_count, AreRuns}

or_assoc : (a b c : Bool) → (a || (b || c)) ≡ ((a || b) || c)
or_assoc true b c = refl
or_assoc false b c = refl

pub has_block-append : (xs ys : List Run) (b : ℕ) → has_block (xs ++ ys) b ≡ (has_block xs b || has_block ys b)
has_block-append [] ys b = refl
has_block-append (run ∷ xs) ys b = ap (λ v. in_run run b || v) (has_block-append xs ys b) ∙ or_assoc (in_run run b) (has_block xs b) (has_block ys b)

pub block_count-append : (xs ys : List Run) → block_count (xs ++ ys) ≡ block_count xs + block_count ys
block_count-append [] ys = omega arith
block_count-append (run ∷ xs) ys = omega (arith, block_count-append xs ys)

-- from a lower place, and below a higher one
pub runs_wider : (low high low' high' : ℕ) (runs : List Run) → low' ≤ low → high ≤ high' → AreRuns low high runs
    → AreRuns low' high' runs
runs_wider low high low' high' [] l h are = tt
runs_wider low high low' high' (run ∷ runs) l h are = (omega (arith, are.0), are.1, omega (arith, are.2), runs_wider (run.first + run.count + 1) high (run.first + run.count + 1) high' runs (omega arith) h are.3)

-- no block below the first, and none behind the last
pub none_below : (low high b : ℕ) (runs : List Run) → AreRuns low high runs → b < low → has_block runs b ≡ false
none_below low high b [] are below = refl
none_below low high b (run ∷ runs) are below =
    let rest = none_below (run.first + run.count + 1) high b runs are.3 (omega (arith, are.0)) in
    let out : in_run run b ≡ false = grind (arith, nat_tests, are.0) in
    rw (out, rest) refl

pub none_above : (low high b : ℕ) (runs : List Run) → AreRuns low high runs → high ≤ b → has_block runs b ≡ false
none_above low high b [] are above = refl
none_above low high b (run ∷ runs) are above =
    let rest = none_above (run.first + run.count + 1) high b runs are.3 above in
    let out : in_run run b ≡ false = grind (arith, nat_tests, are.2) in
    rw (out, rest) refl

-- what runs say of those before one of them, of that one, and of those behind it
pub record Parts (low high : ℕ) (front : List Run) (run : Run) (back : List Run) : Type 0 where
  pub before : AreRuns low (run.first - 1) front
  pub from : low ≤ run.first
  pub some : 0 < run.count
  pub to : run.first + run.count ≤ high
  pub behind : AreRuns (run.first + run.count + 1) high back

pub parts : (low high : ℕ) (front : List Run) (run : Run) (back : List Run) → AreRuns low high (front ++ run ∷ back)
    → Parts low high front run back
parts low high [] run back are = record { before = tt; from = are.0; some = are.1; to = are.2; behind = are.3 }
parts low high (first ∷ front) run back are =
    let rest = parts (first.first + first.count + 1) high front run back are.3 in
    record {
      before = (are.0, are.1, omega (arith, rest.from), rest.before);
      from = omega (arith, are.0, rest.from);
      some = rest.some;
      to = rest.to;
      behind = rest.behind;
    }

pub runs_joined : (low high : ℕ) (front : List Run) (run : Run) (back : List Run) → Parts low high front run back
    → AreRuns low high (front ++ run ∷ back)
runs_joined low high [] run back of = (of.from, of.some, of.to, of.behind)
runs_joined low high (first ∷ front) run back of = (
  of.before.0,
  of.before.1,
  omega (arith, of.before.2, of.to),
  runs_joined (first.first + first.count + 1) high front run back (record {
    before = of.before.3;
    from = omega (arith, of.before.1, of.before.2);
    some = of.some;
    to = of.to;
    behind = of.behind;
  }),
)

-- there are at most half as many runs as places
pub few_runs : (low high : ℕ) (runs : List Run) → AreRuns low high runs → low ≤ high + 1
    → length runs * 2 + low ≤ high + 1
few_runs low high [] are le = omega (arith, le)
few_runs low high (run ∷ runs) are le = omega (arith, are.0, are.1, are.2, few_runs (run.first + run.count + 1) high runs are.3 (omega (arith, are.2)))

-- and no more blocks than places
pub few_blocks : (low high : ℕ) (runs : List Run) → AreRuns low high runs → block_count runs ≤ high - low
few_blocks low high [] are = omega arith
few_blocks low high (run ∷ runs) are = omega (arith, are.0, are.1, are.2, few_blocks (run.first + run.count + 1) high runs are.3)

-- a list is what is before a place, the element there, and what is behind it
pub cut_at : (xs : List Run) (i : ℕ) (d : Run) → i < length xs → xs ≡ take i xs ++ get_or xs i d ∷ drop (i + 1) xs
cut_at xs i d inside = sym (take-append-drop i xs) ∙ ap (λ (ys : List Run). take i xs ++ ys) (drop_more xs i d inside)

pub parts_at : (low high : ℕ) (xs : List Run) (i : ℕ) (d : Run) → i < length xs → AreRuns low high xs
    → Parts low high (take i xs) (get_or xs i d) (drop (i + 1) xs)
parts_at low high xs i d inside are = parts low high (take i xs) (get_or xs i d) (drop (i + 1) xs) (subst (λ (ys : List Run). AreRuns low high ys) (cut_at xs i d inside) are)

-- those up to a place, which end where the last of them ends
pub runs_to : (low high : ℕ) (xs : List Run) (i : ℕ) (d : Run) → i < length xs → AreRuns low high xs
    → AreRuns low ((get_or xs i d).first + (get_or xs i d).count) (take (i + 1) xs)
runs_to low high xs i d inside are =
    let of = parts_at low high xs i d inside are in
    rw (take_more xs i d inside) (runs_joined low ((get_or xs i d).first + (get_or xs i d).count) (take i xs) (get_or xs i d) []
    (record { before = of.before; from = of.from; some = of.some; to = omega arith; behind = tt }))

-- those from a place on, from where the first of them begins
pub runs_from : (low high : ℕ) (xs : List Run) (i : ℕ) (d : Run) → i < length xs → AreRuns low high xs
    → AreRuns (get_or xs i d).first high (drop i xs)
runs_from low high xs i d inside are =
    let of = parts_at low high xs i d inside are in
    rw (drop_more xs i d inside) (omega arith, of.some, of.to, of.behind)
