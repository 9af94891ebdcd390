-- What a crash may leave, by what was read and what was written since the last sync.
use Rattle.std.specs.Prelude.{◌≡◌, ℕ, ◌<◌, ◌≤◌, List, length, take, drop, slice_index}
use Rattle.glacier_disk.specs.declared.area.Area.{Area}
use Rattle.glacier_disk.specs.declared.call.Call.{Call}
use Rattle.glacier_disk.specs.Image.{Image}
use Rattle.glacier_disk.specs.Log.{after_calls}
use Rattle.glacier_disk.specs.Stopped.{NoSync, synced, written}

-- an image that a read gave at a moment since the last sync, that of the sync among them
pub record ReadSince (first : Image) (calls : List Call) (image : Image) : Type 0 where
  pub moment : ℕ
  pub passed : moment ≤ length calls
  pub no_sync : NoSync (drop moment calls)
  pub is : image ≡ after_calls (take moment calls) first

-- each length lies between the shortest and the longest that were read, and each place that was not written holds
-- what is stable
pub record Allowed (read : Image → Type 0) (stable : Image) (written : Area → ℕ → Type 0) (image : Image) : Type 0 where
  pub no_shorter : (area : Area) → (other : Image) × read other × (length (other area) ≤ length (image area))
  pub no_longer : (area : Area) → (other : Image) × read other × (length (image area) ≤ length (other area))
  pub unwritten : (area : Area) (k : ℕ) → k < length (image area) → ¬ written area k →
      (k < length (stable area)) × (slice_index (image area) k ≡ slice_index (stable area) k)

-- what the lengths and the written places since the last sync allow
abbrev pub allowed_after : Image → List Call → Image → Type 0
allowed_after first calls image = Allowed (ReadSince first calls) (synced first calls) (written first calls) image
