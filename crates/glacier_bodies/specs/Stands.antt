-- The state with whole bytes, and what an image of a disk stands for.
use Rattle.std.specs.Prelude.{◌≡◌, ℕ, Bool, List, Option, Some, option_and_then}
use Rattle.std.specs.Cmp.Lexicographic.{slice_cmp}
use Rattle.std.specs.FinMap as map
use Rattle.std.specs.Ordering.{nat_cmp}
use Rattle.glacier_disk.specs.declared.area.Area.TheVariants.{Lead, Left, Right, Blobs}
use Rattle.glacier_disk.specs.Image.{Image, SameBut, Follows}
use Rattle.glacier_disk.specs.Told.{Told}
use Rattle.glacier_disk.specs.Moments.{LeavesOnly}
use Rattle.glacier_extents.specs.declared.run.Run.{Run}
use Rattle.glacier_extents.specs.Places.{WritesBlocks}
use Rattle.glacier_extents.specs.Runs.{has_block, AreDistinct}
use Rattle.glacier_bodies.specs.Blobs.{Holds, IsApart}
use Rattle.glacier_extents.specs.FreeRuns.{blocks}

-- something for each blob, by its account and its number
abbrev pub ByBlob : Type 0 → Type 0
ByBlob X = map.FinMap (slice_cmp nat_cmp) (map.FinMap nat_cmp X)

-- the bytes of each blob
abbrev pub Bodies : Type 0
Bodies = ByBlob (List ℕ)

-- the runs of each blob
abbrev pub Layouts : Type 0
Layouts = ByBlob (List Run)

-- what there is for a blob
abbrev pub at_blob : {X : Type 0} → ByBlob X → List ℕ → ℕ → Option X
at_blob m account number = option_and_then (λ inner. map.get inner number) (map.get m account)

-- two blobs are two, by account or by number
abbrev pub AreTwo : List ℕ → ℕ → List ℕ → ℕ → Type 0
AreTwo account number other_account other_number = account ≡ other_account → number ≡ other_number → ⊥

-- no block is in two blobs or twice in one, and none lies past the last
pub record AreApart (layouts : Layouts) : Type 0 where
  pub distinct : (account : List ℕ) (number : ℕ) (runs : List Run) → at_blob layouts account number ≡ Some runs
      → AreDistinct blocks runs
  pub apart : (account : List ℕ) (number : ℕ) (runs : List Run) (other : List ℕ) (other_number : ℕ) (other_runs : List Run)
      → at_blob layouts account number ≡ Some runs → at_blob layouts other other_number ≡ Some other_runs
      → AreTwo account number other other_number
      → IsApart (has_block runs) other_runs

-- each blob has bytes, and they lie in its blocks
abbrev pub AllHeld : Layouts → Bodies → List ℕ → Type 0
AllHeld layouts bodies content = (account : List ℕ) (number : ℕ) (runs : List Run) → at_blob layouts account number ≡ Some runs
    → (bytes : List ℕ) × (at_blob bodies account number ≡ Some bytes) × Holds runs bytes content

-- What an image says of a state: the journal's part is a fact on Lead, Left and Right, which give the state and each blob's runs,
-- and the state says of each body what its bytes make of it, as its leaves.
module _ {State : Type 0} (Reads : List ℕ → List ℕ → List ℕ → State → Layouts → Type 0)
    (Tells : State → Bodies → Type 0) where
  pub record StandsBy (state : State) (bodies : Bodies) (layouts : Layouts) (image : Image) : Type 0 where
    pub reads : Reads (image Lead) (image Left) (image Right) state layouts
    pub held : AllHeld layouts bodies (image Blobs)
    pub tells : Tells state bodies
    pub apart : AreApart layouts

  -- some runs of the blobs make an image stand for a state
  abbrev pub Stands : State → Bodies → Image → Type 0
  Stands state bodies image = (layouts : Layouts) × StandsBy state bodies layouts image

  -- each image that a crash now may leave stands for the state, with these runs
  abbrev pub Kept : Told → State → Bodies → Layouts → Type 0
  Kept told state bodies layouts = (i : Image) → told.leaves i → StandsBy state bodies layouts i

-- a step of an image that leaves all but Blobs as it is, and each blob where it was held
pub record KeepsBlobs (layouts : Layouts) (bodies : Bodies) (old new : Image) : Type 0 where
  pub others : SameBut Blobs old new
  pub held : AllHeld layouts bodies (old Blobs) → AllHeld layouts bodies (new Blobs)

-- each image after some calls, and at each moment inside them, is one from before them but for such a step
pub record KeepsImages (layouts : Layouts) (bodies : Bodies) (old new : Told) : Type 0 where
  pub reads : KeepsBlobs layouts bodies old.reads new.reads
  pub crash : Follows (KeepsBlobs layouts bodies) old.leaves new.leaves
  pub moments : LeavesOnly old new (λ i. (d : Image) × old.leaves d × KeepsBlobs layouts bodies d i)

-- none of these blocks is a blob's
abbrev pub IsUnnamed : (ℕ → Bool) → Layouts → Type 0
IsUnnamed own layouts = (account : List ℕ) (number : ℕ) (runs : List Run) → at_blob layouts account number ≡ Some runs → IsApart own runs

-- A body's bytes go to these blocks, which no blob has: nothing else is written, and each image keeps the blobs.
pub record StreamsInto (layouts : Layouts) (runs : List Run) (old new : Told) : Type 0 where
  pub own : WritesBlocks (has_block runs) old new
  pub kept : (bodies : Bodies) → AllHeld layouts bodies (old.reads Blobs) → KeepsImages layouts bodies old new
