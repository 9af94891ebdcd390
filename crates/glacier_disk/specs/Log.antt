-- What the log of all calls says of the contents, and of what a crash may leave.
use Rattle.std.specs.Prelude.{◌≡◌, ◌⊎◌, ℕ, ◌+◌, ◌≤◌, min, List, [], ◌∷◌, ◌++◌, length, take, Result, OnOk, OnErr, IsErr}
use Rattle.std.specs.List.{Contains}
use Rattle.glacier_disk.specs.Calls.{Counted}
use Rattle.glacier_disk.specs.declared.area.Area.{Area}
use Rattle.glacier_disk.specs.declared.area.Area.TheVariants.{Lead, Left, Right, Blobs}
use Rattle.glacier_disk.specs.declared.call.Call.{Call}
use Rattle.glacier_disk.specs.declared.call.Call.TheVariants.{Write, Cut, Sync, NoEffect, Accept, Send}
use Rattle.glacier_disk.specs.Image.{Image, put, TornWrite, TornCut}
use Rattle.glacier_disk.specs.Time.{DiskState, Elapses, Resting}

-- one area replaced
abbrev pub with_area : Area → List ℕ → Image → Image
with_area Lead bytes image Lead = bytes
with_area Left bytes image Left = bytes
with_area Right bytes image Right = bytes
with_area Blobs bytes image Blobs = bytes
with_area area bytes image other = image other

-- what a read gives after a call
abbrev pub after_call : Call → Image → Image
after_call (Write area place bytes) image = with_area area (put place bytes (image area)) image
after_call (Cut area n) image = with_area area (take n (image area)) image
after_call call image = image

abbrev pub after_calls : List Call → Image → Image
after_calls [] image = image
after_calls (call ∷ calls) image = after_calls calls (after_call call image)

-- a call that failed stands in the log as one that changed nothing, or not at all
abbrev pub Quietly : List Call → List Call → Type 0
Quietly old new = (new ≡ old) ⊎ (new ≡ old ++ NoEffect ∷ [])

-- a call is added to the log, or it failed, as a planned one does
pub record Noted {T E : Type 0} (call : Call) (plan : List ℕ) (old new : List Call) (result : Result T E) : Type 0 where
  pub ok : OnOk result (new ≡ old ++ call ∷ [])
  pub err : OnErr result (Quietly old new)
  pub planned : Contains plan (length old) → IsErr result
  pub counted : Counted (length old) (length new) result

-- what a crash may leave after a call, by what reads gave and what a crash might leave before it
abbrev pub left_by_call : Call → Image → (Image → Type 0) → Image → Type 0
left_by_call (Write area place bytes) image before i = (d : Image) × before d × TornWrite area (min place (length (image area))) (place + length bytes) d i
left_by_call (Cut area n) image before i = (d : Image) × before d × TornCut area n d i
left_by_call Sync image before i = i ≡ image
left_by_call call image before i = before i

abbrev pub left_by_calls : List Call → Image → (Image → Type 0) → Image → Type 0
left_by_calls [] image before i = before i
left_by_calls (call ∷ calls) image before i = left_by_calls calls (after_call call image) (left_by_call call image before) i

-- what a crash may leave after these calls, at first the image alone
abbrev pub left_after : Image → List Call → Image → Type 0
left_after first calls i = left_by_calls calls first (λ d. d ≡ first) i

-- what a crash at a moment from that one on might have left
pub record LeftSince (first : Image) (calls : List Call) (since : ℕ) (i : Image) : Type 0 where
  pub moment : ℕ
  pub late : since ≤ moment
  pub passed : moment ≤ length calls
  pub left : left_after first (take moment calls) i

-- calls of the disk alone
abbrev pub IsDiskCall : Call → Type 0
IsDiskCall Accept = ⊥
IsDiskCall (Send bytes) = ⊥
IsDiskCall call = Unit {0}

abbrev pub AreDiskCalls : List Call → Type 0
AreDiskCalls [] = Unit {0}
AreDiskCalls (call ∷ calls) = IsDiskCall call × AreDiskCalls calls

-- none but disk calls led from the one state to the other
pub record Grows (first_old first_new : Image) (old new : List Call) : Type 0 where
  pub first : first_new ≡ first_old
  pub more : List Call
  pub calls : new ≡ old ++ more
  pub disk : AreDiskCalls more

-- what is told of the disk after these calls, where a read gives this image
abbrev pub disk_after : Image → List Call → Image → DiskState
disk_after first calls now = record {
  moment = length calls;
  reads = now;
  leaves = left_after first calls;
  left = LeftSince first calls;
}

-- no image changes from one log to a longer one
abbrev pub Still : Image → Image → List Call → List Call → Image → Image → Type 0
Still first_old first_new old new was now = Resting (disk_after first_old old was) (disk_after first_new new now)

-- time goes on from one log to a longer one
abbrev pub Passes : Image → Image → List Call → List Call → Type 0
Passes first_old first_new old new = Elapses (length old) (length new) (LeftSince first_old old) (LeftSince first_new new) (left_after first_new new)
