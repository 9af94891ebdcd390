-- The runs of a blob, and the places where they begin.
use Rattle.std.specs.Prelude.{◌≡◌, ℕ, ◌+◌, ◌≤◌, List, [], ◌∷◌}
use Rattle.glacier_extents.specs.declared.run.Run.{Run}
use Rattle.glacier_extents.specs.FreeRuns.{blocks}
use Rattle.glacier_extents.specs.Runs.{AreDistinct, block_count}

-- the places where runs begin, in blocks, the first of them at a start
abbrev pub starts_from : ℕ → List Run → List ℕ
starts_from start [] = []
starts_from start (run ∷ runs) = start ∷ starts_from (start + run.count) runs

-- runs with no block twice, where they begin, and how many blocks they have
pub record IsLayout (runs : List Run) (starts : List ℕ) (count : ℕ) : Type 0 where
  pub distinct : AreDistinct blocks runs
  pub starts_are : starts ≡ starts_from 0 runs
  pub count_is : count ≡ block_count runs
  pub bound : count ≤ blocks
