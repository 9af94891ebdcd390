-- What one call more in the record says of a station's log.
use Rattle.std.proofs.Common.{◌≡◌, inl, inr, ◌++◌, ◌∷◌, [], List, ℕ, ◌+◌, Result, length, min, refl, sym, ◌∙◌, ap, subst}
use Rattle.std.specs.List.{concat}
use Rattle.std.specs.declared.result.Result.TheVariants.{Ok, Err}
use Rattle.glacier_disk.specs.declared.area.Area.{Area}
use Rattle.glacier_disk.specs.declared.call.Call.{Call}
use Rattle.glacier_disk.specs.declared.call.Call.TheVariants.{Write, NoEffect}
use Rattle.glacier_disk.specs.declared.call_log.CallLog.{CallLog}
use Rattle.glacier_disk.specs.Contents.{image_of}
use Rattle.glacier_disk.specs.Image.{Image, TornWrite, TornCut, Follows, write_self, cut_self}
use Rattle.glacier_disk.specs.MemConnections.{connections_on}
use Rattle.glacier_disk.specs.Network.{sent_on}
use Rattle.glacier_disk.specs.Log.{after_calls, after_call, left_after, Noted, Quietly, IsDiskCall, Grows, Still}
use Rattle.glacier_disk.specs.Sent.{sent_after, PassesWith}
use Rattle.glacier_disk.proofs.Steps.{pushed_now, pushed_left, quiet_now, quiet_left}
use Rattle.glacier_disk.proofs.With.{quiet_still, quiet_sent, disk_sent, quiet_with, quiet_grows}

pub noted_quietly : {T E : Type 0} {plan : List ℕ} {old new : List Call} (result : Result T E)
    → Noted NoEffect plan old new result → Quietly old new
noted_quietly (Ok x) noted = inr noted.ok
noted_quietly (Err e) noted = noted.err

module _ (t : CallLog) (new : List Call) where
  -- a call that failed, or changed nothing
  module _ (quiet : Quietly t.calls.items new) where
    pub quiet_replays : image_of t.now ≡ after_calls new (image_of t.first)
    quiet_replays = quiet_now (image_of t.first) t.calls.items new (image_of t.now) (image_of t.now) quiet t.replays refl

    -- of a write that left the contents alone
    pub unwritten_replays : (now : Image) → now ≡ image_of t.now → now ≡ after_calls new (image_of t.first)
    unwritten_replays now same = quiet_now (image_of t.first) t.calls.items new (image_of t.now) now quiet t.replays same

    -- what a crash may leave of a write or a cut that failed
    pub unwritten_crash : (area : Area) (start end : ℕ)
        → Follows (TornWrite area start end) (left_after (image_of t.first) t.calls.items) (left_after (image_of t.first) new)
    unwritten_crash area start end = λ i left. (i, quiet_left (image_of t.first) t.calls.items new quiet i left, write_self area start end i)

    pub uncut_crash : (area : Area) (n : ℕ)
        → Follows (TornCut area n) (left_after (image_of t.first) t.calls.items) (left_after (image_of t.first) new)
    uncut_crash area n = λ i left. (i, quiet_left (image_of t.first) t.calls.items new quiet i left, cut_self area n i)

    pub quiet_bytes : sent_after new ≡ sent_after t.calls.items
    quiet_bytes = quiet_sent (image_of t.first) t.calls.items new quiet

    pub quiet_sends : sent_on (connections_on t.past.items t.last) ≡ sent_after new
    quiet_sends = t.sends ∙ sym quiet_bytes

    pub quiet_whole : t.sent.items ≡ concat (sent_after new)
    quiet_whole = t.whole ∙ ap concat (sym quiet_bytes)

    pub quiet_rests : Still (image_of t.first) (image_of t.first) t.calls.items new (image_of t.now) (image_of t.now)
    quiet_rests = quiet_still (image_of t.first) t.calls.items new quiet (image_of t.now) (image_of t.now) refl

    -- for whatever follows from the bytes sent before
    pub quiet_passes : (Sent : List (List ℕ) → Type 0)
        → ((s : List (List ℕ)) → s ≡ sent_after t.calls.items → Sent s)
        → PassesWith (image_of t.first) (image_of t.first) t.calls.items new Sent
    quiet_passes Sent sent = quiet_with (image_of t.first) t.calls.items new quiet Sent sent

    pub quiet_grown : Grows (image_of t.first) (image_of t.first) t.calls.items new
    quiet_grown = quiet_grows (image_of t.first) t.calls.items new quiet

  -- a disk call more
  module _ (call : Call) (of_disk : IsDiskCall call) (pushed : new ≡ t.calls.items ++ call ∷ []) where
    pub disk_bytes : sent_after new ≡ sent_after t.calls.items
    disk_bytes = disk_sent (image_of t.first) t.calls.items new call of_disk pushed

    pub disk_sends : sent_on (connections_on t.past.items t.last) ≡ sent_after new
    disk_sends = t.sends ∙ sym disk_bytes

    pub disk_whole : t.sent.items ≡ concat (sent_after new)
    disk_whole = t.whole ∙ ap concat (sym disk_bytes)

  -- a call more, and what a read gives after it
  pub pushed_replays : (call : Call) (now : Image) → new ≡ t.calls.items ++ call ∷ []
      → now ≡ after_call call (image_of t.now) → now ≡ after_calls new (image_of t.first)
  pushed_replays call now pushed step = pushed_now (image_of t.first) t.calls.items new call (image_of t.now) now pushed t.replays step

  -- what a crash may leave of a write
  pub write_crash : (area : Area) (place : ℕ) (bytes : List ℕ)
      → new ≡ t.calls.items ++ Write area place bytes ∷ []
      → Follows (TornWrite area (min place (length (image_of t.now area))) (place + length bytes)) (left_after (image_of t.first) t.calls.items) (left_after (image_of t.first) new)
  write_crash area place bytes pushed = λ i left.
      subst (λ (now : Image). (d : Image) × left_after (image_of t.first) t.calls.items d × TornWrite area (min place (length (now area))) (place + length bytes) d i) (sym t.replays)
      (pushed_left (image_of t.first) t.calls.items new (Write area place bytes) pushed i left)

-- a write that failed with nothing written
pub unwritten_part : (area : Area) (start end : ℕ) (was now : Image) → now ≡ was → TornWrite area start end was now
unwritten_part area start end was now same = subst (λ (i : Image). TornWrite area start end was i) (sym same) (write_self area start end was)

-- a call that isn't recorded and changes no image
pub nothing_done : (old new : CallLog) → new.calls ≡ old.calls → new.now ≡ old.now → new.first ≡ old.first
    → (Sent : List (List ℕ) → Type 0) → ((s : List (List ℕ)) → s ≡ sent_after old.calls.items → Sent s) →
    Still (image_of old.first) (image_of new.first) old.calls.items new.calls.items (image_of old.now) (image_of new.now) × PassesWith (image_of old.first) (image_of new.first) old.calls.items new.calls.items Sent
nothing_done old new calls now first Sent sent =
    let was = image_of old.first in
    let same : new.calls.items ≡ old.calls.items = ap (λ l. l.items) calls in
    let P : Image → Type 0 = λ f. Still was f old.calls.items new.calls.items (image_of old.now) (image_of new.now) × PassesWith was f old.calls.items new.calls.items Sent in
    subst P (sym (ap image_of first)) (quiet_still was old.calls.items new.calls.items (inl same) (image_of old.now) (image_of new.now) (ap image_of now), quiet_with was old.calls.items new.calls.items (inl same) Sent sent)
