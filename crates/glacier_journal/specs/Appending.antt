-- What a crash leaves while a list is written.
use Rattle.std.specs.Prelude.{◌⊎◌, ℕ, ◌+◌, ◌≤◌, min, max, List, [], ◌∷◌, ◌++◌, length}
use Rattle.glacier_disk.specs.declared.area.Area.{Area}
use Rattle.glacier_disk.specs.Image.{Image, SameBut, TornWrite, Only}
use Rattle.glacier_disk.specs.Moments.{LeavesOnly}
use Rattle.glacier_disk.specs.Told.{Told}
use Rattle.glacier_disk.specs.Touches.{Touches}
use Rattle.glacier_journal.specs.Listed.{Listed, Payloads, AllList}

-- an image that a crash may leave while bytes are written: one that it could leave before, torn in the write's places
abbrev pub Writing : Told → Area → ℕ → ℕ → Image → Type 0
Writing disk area at count i =
    (d : Image) × disk.leaves d × TornWrite area (min at (length (disk.reads area))) (at + count) d i

-- calls write in this area alone, and not past this place
pub record WritesUpTo (area : Area) (end : ℕ) (old new : Told) : Type 0 where
  pub touches : Touches area old new
  pub no_longer : length (new.reads area) ≤ max (length (old.reads area)) end

-- bytes are written at a place, or some of them, and a crash meanwhile leaves them written in part
pub record WritesPart (area : Area) (place count : ℕ) (old new : Told) : Type 0 where
  pub touches : Touches area old new
  pub no_longer : length (new.reads area) ≤ max (length (old.reads area)) (place + count)
  pub any_moment : LeavesOnly old new (Writing old area place count)

-- The old list: an image that a crash could leave before, but for the area that is written, lists what it listed.
pub record StillLists (leaves : Image → Type 0) (written area : Area) (payloads : Payloads) (end : ℕ) (i : Image)
    : Type 0 where
  pub from : Image
  pub was : leaves from
  pub others : SameBut written from i
  pub listed : Listed i area payloads end

-- The new list: an image that is, but for the area that is written, what the disk read before.
pub record NowLists (reads : Image) (written area : Area) (payloads : Payloads) (end : ℕ) (i : Image) : Type 0 where
  pub others : SameBut written reads i
  pub listed : Listed i area payloads end

-- what a crash leaves while a payload is added to a list: the list without it or with it
abbrev pub Appending : Told → Area → Payloads → ℕ → List ℕ → Image → Type 0
Appending disk area payloads end payload i =
    StillLists disk.leaves area area payloads end i
    ⊎ NowLists disk.reads area area (payloads ++ payload ∷ []) (end + (length payload + 5)) i

-- A payload is added to the list that ends at this place, or not: nothing is written in another area, the area as it
-- reads ends at the new closed gate or where it ended, and at any moment a crash leaves the list without it or with it.
pub record Appends (area : Area) (end : ℕ) (payload : List ℕ) (old new : Told) : Type 0 where
  pub touches : Touches area old new
  pub no_longer : length (new.reads area) ≤ max (length (old.reads area)) (end + (length payload + 5))
  pub any_moment : (payloads : Payloads) → AllList old.leaves area payloads end
      → LeavesOnly old new (Appending old area payloads end payload)

-- a list is on the disk for good: a crash leaves what a read gives, and this lists it
pub record IsDurable (old new : Told) (written area : Area) (payloads : Payloads) (end : ℕ) : Type 0 where
  pub only : Only new.reads new.leaves
  pub now : NowLists old.reads written area payloads end new.reads
