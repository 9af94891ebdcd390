-- The bytes of a blob in Blobs (docs/rules/blocks.md).
use Rattle.std.specs.Prelude.{◌≡◌, ℕ, ◌*◌, Bool, true, false, List, [], ◌∷◌, take, drop}
use Rattle.glacier_extents.specs.declared.run.Run.{Run}
use Rattle.glacier_extents.specs.Places.{block_size, HasAt}
use Rattle.glacier_extents.specs.Runs.{has_block}

-- these bytes lie in the blocks of these runs, in order, all of them below the content's end
abbrev pub Holds : List Run → List ℕ → List ℕ → Type 0
Holds [] bytes content = bytes ≡ []
Holds (run ∷ runs) bytes content =
    HasAt (run.first * block_size) (take (run.count * block_size) bytes) content × Holds runs (drop (run.count * block_size) bytes) content

-- none of the blocks of one is one of the other's
abbrev pub IsApart : (ℕ → Bool) → List Run → Type 0
IsApart own runs = (b : ℕ) → own b ≡ true → has_block runs b ≡ false
