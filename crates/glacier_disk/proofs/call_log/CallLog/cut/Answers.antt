use Rattle.std.proofs.Common.{refl}
use Rattle.glacier_disk.specs.Contents.{image_of}
use Rattle.glacier_disk.specs.declared.call.Call.{Call}
use Rattle.glacier_disk.specs.declared.call.Call.TheVariants.{Cut}
use Rattle.glacier_disk.proofs.Steps.{pushed_time, pushed_left, quiet_time, set_becomes}
use Rattle.glacier_disk.proofs.LogSteps.{quiet_replays, quiet_sends, quiet_whole, quiet_grown, disk_sends, disk_whole, pushed_replays, uncut_crash}
use Rattle.glacier_disk.proofs.call_log.CallLog.cut.Goals as goal

pub invariant_of-self : goal.invariant_of-self
invariant_of-self c =
    let t = c.args.self.now in
    let new = c.note.new.calls.items in
    let call : Call = Cut c.args.area c.args.length in
    let e = c.in-Ok.ensures.ok in
    record { replays = pushed_replays t new call (image_of c.cut_in.new.now) e c.cut_in.ensures; sends = disk_sends t new call tt e; whole = disk_whole t new call tt e; room = t.room }

pub invariant_of-self-in-Err-1 : goal.invariant_of-self-in-Err-1
invariant_of-self-in-Err-1 c =
    let t = c.args.self.now in
    let new = c.note.new.calls.items in
    let q = c.in-Err.ensures.err in
    record { replays = quiet_replays t new q; sends = quiet_sends t new q; whole = quiet_whole t new q; room = t.room }

pub returns-in-Ok-clause-cut : goal.returns-in-Ok-clause-cut
returns-in-Ok-clause-cut c = set_becomes c.args.area _ (image_of c.args.self.now.now) (image_of c.cut_in.new.now) c.cut_in.ensures

pub returns-in-Ok-clause-crash : goal.returns-in-Ok-clause-crash
returns-in-Ok-clause-crash c =
    let t = c.args.self.now in
    λ i left. pushed_left (image_of t.first) t.calls.items c.note.new.calls.items (Cut c.args.area c.args.length) c.in-Ok.ensures.ok i left

pub returns-in-Ok-clause-time : goal.returns-in-Ok-clause-time
returns-in-Ok-clause-time c =
    let t = c.args.self.now in
    pushed_time (image_of t.first) t.calls.items c.note.new.calls.items (Cut c.args.area c.args.length) c.in-Ok.ensures.ok

pub returns-in-Err-clause-crash : goal.returns-in-Err-clause-crash
returns-in-Err-clause-crash c = uncut_crash c.args.self.now c.note.new.calls.items c.in-Err.ensures.err c.args.area c.args.length

pub returns-in-Err-clause-time : goal.returns-in-Err-clause-time
returns-in-Err-clause-time c =
    let t = c.args.self.now in
    quiet_time (image_of t.first) t.calls.items c.note.new.calls.items c.in-Err.ensures.err

pub returns-in-Err-clause-connections : goal.returns-in-Err-clause-connections
returns-in-Err-clause-connections c = record { grows = quiet_grown c.args.self.now c.note.new.calls.items c.in-Err.ensures.err; past = refl; last = refl }
