-- Runs of blocks (docs/rules/blocks.md).
use Rattle.std.specs.Prelude.{◌≡◌, ℕ, ◌+◌, ◌-◌, ◌<◌, ◌≤◌, Bool, true, false, ◌&&◌, ◌||◌, nat_le, nat_lt, if◌then◌else◌, List, [], ◌∷◌}
use Rattle.glacier_extents.specs.declared.run.Run.{Run}

-- a block is one of a run's
abbrev pub in_run : Run → ℕ → Bool
in_run run b = nat_le run.first b && nat_lt b (run.first + run.count)

-- it is one of some runs'
abbrev pub has_block : List Run → ℕ → Bool
has_block [] b = false
has_block (run ∷ runs) b = in_run run b || has_block runs b

-- how many blocks runs have
abbrev pub block_count : List Run → ℕ
block_count [] = 0
block_count (run ∷ runs) = run.count + block_count runs

-- the block at a place of runs
abbrev pub block_at : List Run → ℕ → ℕ
block_at [] k = 0
block_at (run ∷ runs) k = if nat_lt k run.count then run.first + k else block_at runs (k - run.count)

-- runs in rising order from `low` on and below `high`, none of them empty, with a block between any two
abbrev pub AreRuns : ℕ → ℕ → List Run → Type 0
AreRuns low high [] = Unit {0}
AreRuns low high (run ∷ runs) =
    (low ≤ run.first) × (0 < run.count) × (run.first + run.count ≤ high) × AreRuns (run.first + run.count + 1) high runs

-- runs below `high`, none of them empty, with no block twice
abbrev pub AreDistinct : ℕ → List Run → Type 0
AreDistinct high [] = Unit {0}
AreDistinct high (run ∷ runs) =
    (0 < run.count) × (run.first + run.count ≤ high) × ((b : ℕ) → in_run run b ≡ true → has_block runs b ≡ false) × AreDistinct high runs
