-- A stretch of calls of a disk that ends at the first that fails.
use Rattle.std.proofs.Common.{◌≡◌, true, ◌∙◌, ap, arith}
use Rattle.std.specs.Prelude.{Result, IsErr}
use Rattle.std.specs.declared.result.Result.TheVariants.{Ok, Err}
use Rattle.glacier_base.specs.Outside.{one_more, HasCause}
use Rattle.glacier_disk.specs.Told.{Told}
use Rattle.glacier_bodies.specs.Calls.{BlobCall}

-- none of them failed
pub none_failed : {T E : Type 0} {x : T} (old new : Told) → new.opened ≡ true → new.disk_faults ≡ old.disk_faults
    → BlobCall {T = T} {E = E} old new (Ok x)
none_failed old new opened same = record { opened = opened; cause = record { later = omega (arith, same); ok = same; failed = tt } }

-- the last of them failed
pub last_failed : {T E U F : Type 0} {e : F} (old mid new : Told) (result : Result T E) → IsErr result
    → mid.disk_faults ≡ old.disk_faults → new.opened ≡ true
    → HasCause {T = U} {E = F} mid.disk_faults new.disk_faults (Err e) → BlobCall old new result
last_failed old mid new (Ok x) is same opened cause = cc
last_failed old mid new (Err e) is same opened cause = record {
  opened = opened;
  cause = record { later = omega (arith, cause.later, same); ok = tt; failed = cause.failed ∙ ap one_more same };
}
