use Rattle.std.proofs.Common.{refl, sym, subst}
use Rattle.glacier_disk.specs.Contents.{image_of}
use Rattle.glacier_disk.specs.declared.call.Call.TheVariants.{Sync}
use Rattle.glacier_disk.specs.Image.{Image}
use Rattle.glacier_disk.specs.Log.{left_after}
use Rattle.glacier_disk.specs.LogLaws.{reads_at}
use Rattle.glacier_disk.proofs.Results.{by_result}
use Rattle.glacier_disk.proofs.Steps.{sync_only}
use Rattle.glacier_disk.proofs.LogSteps.{quiet_replays, quiet_sends, quiet_whole, quiet_rests, quiet_grown, disk_sends, disk_whole, pushed_replays}
use Rattle.glacier_disk.proofs.With.{pushed_still}
use Rattle.glacier_disk.proofs.call_log.CallLog.sync.Goals as goal

pub invariant_of-self : goal.invariant_of-self
invariant_of-self c =
    let t = c.args.self.now in
    let new = c.note.new.calls.items in
    by_result c.note.result c.note.ensures.ok c.note.ensures.err
    (λ e. record { replays = pushed_replays t new Sync (image_of t.now) e refl; sends = disk_sends t new Sync tt e; whole = disk_whole t new Sync tt e; room = t.room })
    (λ q. record { replays = quiet_replays t new q; sends = quiet_sends t new q; whole = quiet_whole t new q; room = t.room })

pub returns-in-Ok-clause-durable : goal.returns-in-Ok-clause-durable
returns-in-Ok-clause-durable c =
    let t = c.args.self.now in
    sync_only (image_of t.first) t.calls.items c.note.new.calls.items (image_of t.now) c.in-Ok.ensures.ok t.replays

pub returns-in-Ok-clause-still : goal.returns-in-Ok-clause-still
returns-in-Ok-clause-still c =
    let t = c.args.self.now in
    let first = image_of t.first in
    let old = t.calls.items in
    pushed_still first old c.note.new.calls.items Sync c.in-Ok.ensures.ok (λ i is. subst (λ (d : Image). left_after first old d) (sym is) (reads_at first _ old refl)) (image_of t.now) (image_of t.now) refl

pub returns-in-Err-clause-still : goal.returns-in-Err-clause-still
returns-in-Err-clause-still c = quiet_rests c.args.self.now c.note.new.calls.items c.in-Err.ensures.err

pub returns-in-Err-clause-connections : goal.returns-in-Err-clause-connections
returns-in-Err-clause-connections c = record { grows = quiet_grown c.args.self.now c.note.new.calls.items c.in-Err.ensures.err; past = refl; last = refl }
