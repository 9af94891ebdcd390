-- What a stretch of calls writes in, and what it spares: for what is read, and for what a crash at any moment of it leaves.
use Rattle.std.specs.Prelude.{◌≡◌}
use Rattle.glacier_disk.specs.declared.area.Area.{Area}
use Rattle.glacier_disk.specs.Image.{Image, SameBut}
use Rattle.glacier_disk.specs.Moments.{LeavesOnly}
use Rattle.glacier_disk.specs.Told.{Told}

-- an image that a crash could leave before, but for this area
abbrev pub LikeBut : Told → Area → Image → Type 0
LikeBut disk area i = (d : Image) × disk.leaves d × SameBut area d i

-- they write in this area alone
pub record Touches (area : Area) (old new : Told) : Type 0 where
  pub others : SameBut area old.reads new.reads
  pub crash : (i : Image) → new.leaves i → LikeBut old area i
  pub moments : LeavesOnly old new (LikeBut old area)

-- an image that a crash could leave before, as far as this area goes
abbrev pub LikeIn : Told → Area → Image → Type 0
LikeIn disk area i = (d : Image) × disk.leaves d × (i area ≡ d area)

-- they write nothing in this area
pub record Spares (area : Area) (old new : Told) : Type 0 where
  pub reads : new.reads area ≡ old.reads area
  pub crash : (i : Image) → new.leaves i → LikeIn old area i
  pub moments : LeavesOnly old new (LikeIn old area)
