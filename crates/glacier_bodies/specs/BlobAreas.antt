-- Which blocks are free, and which are each blob's.
use Rattle.std.specs.Prelude.{◌≡◌, ◌⊎◌, ℕ, ◌+◌, ◌*◌, ◌||◌, List, [], ◌∷◌, ◌++◌, Some, unwrap_or, length, refl}
use Rattle.std.specs.Coded.{Coded, code_by, coded×, coded_ℕ, coded_list}
use Rattle.std.specs.FinMap as map
use Rattle.glacier_base.specs.Maps.{changed_at}
use Rattle.glacier_extents.specs.declared.run.Run.{Run}
use Rattle.glacier_extents.specs.Places.{block_size}
use Rattle.glacier_extents.specs.Runs.{has_block, block_count, AreRuns, AreDistinct}
use Rattle.glacier_bodies.specs.Blobs.{IsApart}
use Rattle.glacier_extents.specs.FreeRuns.{blocks}
use Rattle.glacier_bodies.specs.Stands.{ByBlob, Layouts, Bodies, at_blob, AreApart, IsUnnamed}

-- the free blocks, and the runs of each blob
pub record AreaState : Type 0 where
  pub free : List Run
  pub blobs : Layouts

run_code : Coded Run
run_code = code_by (ℕ × ℕ) (coded× coded_ℕ coded_ℕ) (λ run. (run.first, run.count)) (λ p. record { first = p.0; count = p.1 }) (λ _. refl)

-- by which a proof tells two of them apart
pub area_code : Coded AreaState
area_code =
    code_by (List Run × Layouts) (coded× (coded_list run_code) (map.code (coded_list coded_ℕ) (map.code coded_ℕ (coded_list run_code))))
    (λ a. (a.free, a.blobs)) (λ p. record { free = p.0; blobs = p.1 }) (λ _. refl)

-- no block is in two blobs, and none of a blob's is free
pub record IsSound (free : List Run) (blobs : Layouts) : Type 0 where
  pub free_runs : AreRuns 0 blocks free
  pub apart : AreApart blobs
  pub used : (account : List ℕ) (number : ℕ) (runs : List Run) → at_blob blobs account number ≡ Some runs
      → IsApart (has_block runs) free

-- these blocks are in use, and no blob's: an open body's are
pub record IsOpen (area : AreaState) (runs : List Run) : Type 0 where
  pub distinct : AreDistinct blocks runs
  pub used : IsApart (has_block runs) area.free
  pub unnamed : IsUnnamed (has_block runs) area.blobs

-- one blob more
abbrev pub with_blob : {X : Type 0} → ByBlob X → List ℕ → ℕ → X → ByBlob X
with_blob m account number x = map.insert m account (map.insert (unwrap_or (map.get m account) map.empty) number x)

-- one less
abbrev pub without_blob : {X : Type 0} → ByBlob X → List ℕ → ℕ → ByBlob X
without_blob m account number = changed_at (λ inner. map.remove inner number) m account

-- these blocks became free, and the open bodies that have none of them are open
pub record Releases (old new : AreaState) (runs : List Run) : Type 0 where
  pub blocks_are : (b : ℕ) → has_block new.free b ≡ (has_block old.free b || has_block runs b)
  pub count_is : block_count new.free ≡ block_count old.free + block_count runs
  pub others : (other : List Run) → IsOpen old other → IsApart (has_block runs) other → IsOpen new other

-- the runs of some blobs of an account, one blob after another
abbrev pub runs_of : Layouts → List ℕ → List ℕ → List Run
runs_of blobs account [] = []
runs_of blobs account (number ∷ numbers) = unwrap_or (at_blob blobs account number) [] ++ runs_of blobs account numbers

-- the bytes of some blobs, one blob after another
abbrev pub bytes_of : Bodies → List ℕ → List ℕ → List ℕ
bytes_of bodies account [] = []
bytes_of bodies account (number ∷ numbers) = unwrap_or (at_blob bodies account number) [] ++ bytes_of bodies account numbers

-- these blobs are there, and each but the last fills its blocks
abbrev pub AreFilled : Layouts → Bodies → List ℕ → List ℕ → Type 0
AreFilled blobs bodies account [] = Unit {0}
AreFilled blobs bodies account (number ∷ numbers) =
    ((runs : List Run) × (at_blob blobs account number ≡ Some runs)
    × ((numbers ≡ []) ⊎ (length (unwrap_or (at_blob bodies account number) []) ≡ block_count runs * block_size)))
    × AreFilled blobs bodies account numbers
