-- What calls on blobs make of what a disk tells.
use Rattle.std.specs.Prelude.{◌≡◌, true, Result}
use Rattle.glacier_base.specs.Outside.{HasCause}
use Rattle.glacier_disk.specs.Told.{Told}

-- an open disk stays open, and its count of faults rises where a call of it failed
pub record BlobCall {T E : Type 0} (old new : Told) (result : Result T E) : Type 0 where
  pub opened : new.opened ≡ true
  pub cause : HasCause old.disk_faults new.disk_faults result
