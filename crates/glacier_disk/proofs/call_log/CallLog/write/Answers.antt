use Rattle.std.proofs.Common.{refl}
use Rattle.glacier_disk.specs.Contents.{image_of}
use Rattle.glacier_disk.specs.declared.call.Call.{Call}
use Rattle.glacier_disk.specs.declared.call.Call.TheVariants.{Write}
use Rattle.glacier_disk.specs.Image.{put}
use Rattle.glacier_disk.proofs.Results.{by_results}
use Rattle.glacier_disk.proofs.Steps.{pushed_time, quiet_time, set_becomes}
use Rattle.glacier_disk.proofs.LogSteps.{quiet_sends, quiet_whole, quiet_grown, disk_sends, disk_whole, pushed_replays, unwritten_replays, write_crash, unwritten_crash, unwritten_part}
use Rattle.glacier_disk.proofs.call_log.CallLog.write.Goals as goal

pub invariant_of-self : goal.invariant_of-self
invariant_of-self c =
    let t = c.args.self.now in
    let new = c.write.new.calls.items in
    let now = image_of c.write.new.now in
    let call : Call = Write c.args.area c.args.at c.args.bytes.now in
    let e = c.write.ensures in
    by_results c.write.result e.noted.ok e.ok e.noted.err e.err
    (λ added step. record { replays = pushed_replays t new call now added step; sends = disk_sends t new call tt added; whole = disk_whole t new call tt added; room = t.room })
    (λ quiet same. record { replays = unwritten_replays t new quiet now same; sends = quiet_sends t new quiet; whole = quiet_whole t new quiet; room = t.room })

pub returns-in-Ok-clause-written : goal.returns-in-Ok-clause-written
returns-in-Ok-clause-written c =
    let was = image_of c.args.self.now.now in
    set_becomes c.args.area (put c.args.at c.args.bytes.now (was c.args.area)) was (image_of c.write.new.now) c.in-Ok.ensures.ok

pub returns-in-Ok-clause-crash : goal.returns-in-Ok-clause-crash
returns-in-Ok-clause-crash c = write_crash c.args.self.now c.write.new.calls.items c.args.area c.args.at c.args.bytes.now c.in-Ok.ensures.noted.ok

pub returns-in-Ok-clause-time : goal.returns-in-Ok-clause-time
returns-in-Ok-clause-time c =
    let t = c.args.self.now in
    pushed_time (image_of t.first) t.calls.items c.write.new.calls.items (Write c.args.area c.args.at c.args.bytes.now) c.in-Ok.ensures.noted.ok

pub returns-in-Err-clause-part : goal.returns-in-Err-clause-part
returns-in-Err-clause-part c = unwritten_part c.args.area _ _ (image_of c.args.self.now.now) (image_of c.write.new.now) c.in-Err.ensures.err

pub returns-in-Err-clause-crash : goal.returns-in-Err-clause-crash
returns-in-Err-clause-crash c = unwritten_crash c.args.self.now c.write.new.calls.items c.in-Err.ensures.noted.err c.args.area _ _

pub returns-in-Err-clause-time : goal.returns-in-Err-clause-time
returns-in-Err-clause-time c =
    let t = c.args.self.now in
    quiet_time (image_of t.first) t.calls.items c.write.new.calls.items c.in-Err.ensures.noted.err

pub returns-in-Err-clause-connections : goal.returns-in-Err-clause-connections
returns-in-Err-clause-connections c = record { grows = quiet_grown c.args.self.now c.write.new.calls.items c.in-Err.ensures.noted.err; past = refl; last = refl }
