-- What the calls of the memory form do to its log.
use Rattle.std.specs.Prelude.{◌≡◌, true, is_some, length, Result, IsErr}
use Rattle.std.specs.List.{Contains}
use Rattle.glacier_disk.specs.Calls.{Counted}
use Rattle.glacier_disk.specs.Contents.{image_of}
use Rattle.glacier_disk.specs.declared.call_log.CallLog.{CallLog}
use Rattle.glacier_disk.specs.Log.{Grows, Still}

-- the plan stays, a call that it names fails, and the call is counted
pub record Logged {T E : Type 0} (old new : CallLog) (result : Result T E) : Type 0 where
  pub plan : new.planned ≡ old.planned
  pub planned : Contains old.planned (length old.calls.items) → IsErr result
  pub counted : Counted (length old.calls.items) (length new.calls.items) result

-- the log grows by disk calls, and the connections stay
pub record KeepsConnections (old new : CallLog) : Type 0 where
  pub grows : Grows (image_of old.first) (image_of new.first) old.calls.items new.calls.items
  pub past : new.past ≡ old.past
  pub last : new.last ≡ old.last

-- the connection stays open, and no image changes
pub record ConnectionCall (old new : CallLog) : Type 0 where
  pub connected : is_some new.last ≡ true
  pub still : Still (image_of old.first) (image_of new.first) old.calls.items new.calls.items (image_of old.now) (image_of new.now)
