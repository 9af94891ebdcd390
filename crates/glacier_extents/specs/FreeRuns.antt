-- The free blocks, as runs: rising, none empty, each as long as can be.
use Rattle.std.specs.Prelude.{◌≡◌, ℕ, ◌+◌, ◌-◌, ◌<◌, ◌≤◌, true, ◌&&◌, ◌||◌, not, List, [], ◌∷◌, ◌++◌, length, take, drop, slice_index_or}
use Rattle.glacier_extents.specs.declared.blocks.TheConstants.{MOST_RUNS}
use Rattle.glacier_extents.specs.declared.run.Run.{Run}
use Rattle.glacier_extents.specs.declared.run.TheConstants.{BLOCKS}
use Rattle.glacier_extents.specs.Runs.{in_run, has_block, block_count, AreRuns}

-- how many blocks there are
abbrev pub blocks : ℕ
blocks = BLOCKS

-- how many places the list of free runs may need: every second block
abbrev pub most_runs : ℕ
most_runs = MOST_RUNS

-- the run at a place
abbrev pub run_at : List Run → ℕ → Run
run_at runs k = slice_index_or runs k (record { first = 0; count = 0 })

-- a run without its first n blocks
abbrev pub cut_run : ℕ → Run → Run
cut_run n run = record { first = run.first + n; count = run.count - n }

-- what the free set keeps: its runs, their blocks' number, and room for all that may come
pub record IsFreeSet (runs : List Run) (count room : ℕ) : Type 0 where
  pub runs_are : AreRuns 0 blocks runs
  pub count_is : count ≡ block_count runs
  pub room_for_all : most_runs ≤ room

-- a run has a block, and none past the last
abbrev pub IsRun : Run → Type 0
IsRun run = (0 < run.count) × (run.first + run.count ≤ blocks)

-- a run has all blocks of another
abbrev pub IsWithin : Run → Run → Type 0
IsWithin run holder = (holder.first ≤ run.first) × (run.first + run.count ≤ holder.first + holder.count)

-- all blocks of a run are free
abbrev pub AllFree : List Run → Run → Type 0
AllFree free run = (b : ℕ) → in_run run b ≡ true → has_block free b ≡ true

-- all blocks of some runs are free
abbrev pub AllIn : List Run → List Run → Type 0
AllIn free runs = (b : ℕ) → has_block runs b ≡ true → has_block free b ≡ true

-- the n lowest free blocks were taken, in rising order and in the fewest runs
pub record Claims (n : ℕ) (old new claimed : List Run) : Type 0 where
  pub count : block_count claimed ≡ n
  pub free : (b : ℕ) → has_block claimed b ≡ true → has_block old b ≡ true
  pub rest : (b : ℕ) → has_block new b ≡ (has_block old b && not (has_block claimed b))
  pub lowest : (b c : ℕ) → has_block claimed b ≡ true → has_block new c ≡ true → b < c
  pub fewest : AreRuns 0 blocks claimed
  -- none of them lies past as many blocks as were in use and are now claimed
  pub below : (b : ℕ) → has_block claimed b ≡ true → b + block_count old < blocks + n

-- a run may stand at this place of the free runs, where it may touch those before and behind it
pub record IsFit (at : ℕ) (run : Run) (runs : List Run) : Type 0 where
  pub within : at ≤ length runs
  pub some : 0 < run.count
  pub before : AreRuns 0 run.first (take at runs)
  pub behind : AreRuns (run.first + run.count) blocks (drop at runs)
  pub high : run.first + run.count ≤ blocks

-- and it touches none
pub record IsFree (at : ℕ) (run : Run) (runs : List Run) : Type 0 where
  pub within : at ≤ length runs
  pub some : 0 < run.count
  pub before : AreRuns 0 (run.first - 1) (take at runs)
  pub behind : AreRuns (run.first + run.count + 1) blocks (drop at runs)
  pub high : run.first + run.count ≤ blocks

-- the same blocks, with a run beside each of the two lists
pub record SameBlocks (old : List Run) (run : Run) (new : List Run) (joined : Run) : Type 0 where
  pub blocks_are : (b : ℕ) → (has_block new b || in_run joined b) ≡ (has_block old b || in_run run b)
  pub count_is : block_count new + joined.count ≡ block_count old + run.count

-- the first n blocks of runs are so many whole runs, and so many blocks of the next
pub record IsLowest (n : ℕ) (runs claimed : List Run) (whole left : ℕ) : Type 0 where
  pub within : whole ≤ length runs
  pub count : block_count (take whole runs) + left ≡ n
  pub all : left ≡ 0 → claimed ≡ take whole runs
  pub more : 0 < left → whole < length runs
  pub less : 0 < left → left < (run_at runs whole).count
  pub part : 0 < left → claimed ≡ take whole runs ++ record { first = (run_at runs whole).first; count = left } ∷ []

-- Up to a place the list is as it was, and from there on it begins no lower than it did, or than the run that came in.
pub record IsPutIn (at first : ℕ) (old new : List Run) : Type 0 where
  pub within : at ≤ length new
  pub front : take at new ≡ take at old
  pub back : (low : ℕ) → low ≤ first → AreRuns low blocks (drop at old) → AreRuns low blocks (drop at new)
