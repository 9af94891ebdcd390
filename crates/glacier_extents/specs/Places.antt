-- Bytes at places of Blobs, and writes that stay within some of its blocks (docs/rules/blocks.md).
use Rattle.std.specs.Prelude.{◌≡◌, ◌⊎◌, ℕ, ◌+◌, ◌*◌, ◌<◌, ◌≤◌, max, Bool, true, List, length, take, drop}
use Rattle.glacier_extents.specs.declared.run.TheConstants.{BLOCK}
use Rattle.glacier_disk.specs.declared.area.Area.TheVariants.{Blobs}
use Rattle.glacier_disk.specs.Image.{Image, SameBut, Follows}
use Rattle.glacier_disk.specs.Told.{Told}
use Rattle.glacier_disk.specs.Moments.{LeavesOnly}

-- the bytes of a block: 1 MiB
abbrev pub block_size : ℕ
block_size = BLOCK

-- a content has these bytes at a place, all of them
abbrev pub HasAt : ℕ → List ℕ → List ℕ → Type 0
HasAt place bytes content = take (length bytes) (drop place content) ≡ bytes

-- none of these n places is in an own block
abbrev pub IsClear : (ℕ → Bool) → ℕ → ℕ → Type 0
IsClear own place n = (b : ℕ) → own b ≡ true → (place + n ≤ b * block_size) ⊎ (b * block_size + block_size ≤ place)

-- nothing was written but own blocks of Blobs, and places from `end` on
pub record WritesOnly (own : ℕ → Bool) (end : ℕ) (old new : Image) : Type 0 where
  pub others : SameBut Blobs old new
  pub stays : (place : ℕ) (bytes : List ℕ) → place + length bytes ≤ end → IsClear own place (length bytes)
      → HasAt place bytes (old Blobs) → HasAt place bytes (new Blobs)
  -- and nothing behind the last of them
  pub no_longer : (n : ℕ) → ((b : ℕ) → own b ≡ true → b < n)
      → length (new Blobs) ≤ max (length (old Blobs)) (n * block_size)

-- that, of what a disk reads and of what a crash at any moment since may leave; what lay below the end of Blobs before,
-- outside the own blocks, is still there
pub record WritesBlocks (own : ℕ → Bool) (old new : Told) : Type 0 where
  pub reads : WritesOnly own (length (old.reads Blobs)) old.reads new.reads
  pub no_shorter : length (old.reads Blobs) ≤ length (new.reads Blobs)
  pub crash : Follows (WritesOnly own (length (old.reads Blobs))) old.leaves new.leaves
  pub moments : LeavesOnly old new (λ i. (d : Image) × old.leaves d × WritesOnly own (length (old.reads Blobs)) d i)
