-- What each call of a disk makes of what is told.
use Rattle.std.specs.Prelude.{◌≡◌, ℕ, ◌+◌, true, false, List, length, take, min, Result, OnOk, OnErr}
use Rattle.glacier_disk.specs.declared.area.Area.{Area}
use Rattle.glacier_disk.specs.Calls.{Rests, TimePasses, Tried}
use Rattle.glacier_disk.specs.Image.{put, Becomes, TornWrite, TornCut, Follows}
use Rattle.glacier_disk.specs.Told.{Told}

-- these bytes are written at a place; a crash meanwhile, or a fault, may leave them written in part
pub record Writes {T E : Type 0} (area : Area) (place : ℕ) (bytes : List ℕ) (old new : Told) (result : Result T E) : Type 0 where
  pub written : OnOk result (Becomes area (put place bytes (old.reads area)) old.reads new.reads)
  pub part : OnErr result (TornWrite area (min place (length (old.reads area))) (place + length bytes) old.reads new.reads)
  pub crash : Follows (TornWrite area (min place (length (old.reads area))) (place + length bytes)) old.leaves new.leaves
  pub time : TimePasses old new

-- an area is cut to a length; a crash meanwhile, or a fault, may leave it cut in part
pub record Cuts {T E : Type 0} (area : Area) (n : ℕ) (old new : Told) (result : Result T E) : Type 0 where
  pub cut : OnOk result (Becomes area (take n (old.reads area)) old.reads new.reads)
  pub part : OnErr result (TornCut area n old.reads new.reads)
  pub crash : Follows (TornCut area n) old.leaves new.leaves
  pub time : TimePasses old new

-- `open` changes no image
pub record OpenCall {T E : Type 0} (old new : Told) (result : Result T E) : Type 0 where
  pub tried : Tried old old.disk_faults new.disk_faults result
  pub ok : OnOk result (new.opened ≡ true)
  pub err : OnErr result (new.opened ≡ false)
  pub rests : Rests old new

-- a call of an open disk that changes no image
pub record LookCall {T E : Type 0} (old new : Told) (result : Result T E) : Type 0 where
  pub tried : Tried old old.disk_faults new.disk_faults result
  pub opened : new.opened ≡ true
  pub rests : Rests old new

-- one that may change an image
pub record ChangeCall {T E : Type 0} (old new : Told) (result : Result T E) : Type 0 where
  pub tried : Tried old old.disk_faults new.disk_faults result
  pub opened : new.opened ≡ true
