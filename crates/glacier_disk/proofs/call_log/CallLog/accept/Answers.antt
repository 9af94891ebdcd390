use Rattle.std.proofs.Common.{rules, refl, sym, ◌∙◌, ap}
use Rattle.std.specs.List.{concat}
use Rattle.glacier_disk.specs.Contents.{image_of}
use Rattle.glacier_disk.specs.declared.call.Call.TheVariants.{Accept}
use Rattle.glacier_disk.specs.MemConnections.{connections_on}
use Rattle.glacier_disk.specs.Network.{sent_on}
use Rattle.glacier_disk.specs.Sent.{sent_after}
use Rattle.glacier_disk.proofs.Connections.{whole_next}
use Rattle.glacier_disk.proofs.Sending.{accept_sent}
use Rattle.glacier_disk.proofs.LogSteps.{quiet_replays, quiet_sends, quiet_whole, quiet_rests, quiet_passes, pushed_replays}
use Rattle.glacier_disk.proofs.With.{pushed_still, pushed_sent, accept_with}
use Rattle.glacier_disk.proofs.call_log.CallLog.accept.Goals as goal

pub invariant_of-self-in-Ok : goal.invariant_of-self-in-Ok
invariant_of-self-in-Ok c =
    let t = c.args.self.now in
    let new = c.note.new.calls.items in
    let e = c.in-Ok.ensures.ok in
    let sent = pushed_sent (image_of t.first) t.calls.items new Accept e in
    record {
      replays = pushed_replays t new Accept (image_of t.now) e refl;
      sends = accept_sent t.past.items t.last (sent_after t.calls.items) t.sends c.reserve.new.self.items c.new.result c.remove.result c.reserve.ensures.items c.requires.free c.new.ensures ∙ sym sent;
      whole = t.whole ∙ sym (ap concat sent ∙ whole_next (sent_after t.calls.items));
      room = search rules;
    }

pub invariant_of-self-in-Err-1 : goal.invariant_of-self-in-Err-1
invariant_of-self-in-Err-1 c =
    let t = c.args.self.now in
    let new = c.note.new.calls.items in
    let q = c.in-Err.ensures.err in
    record {
      replays = quiet_replays t new q;
      sends = ap (λ l. sent_on (connections_on l t.last)) c.reserve.ensures.items ∙ quiet_sends t new q;
      whole = quiet_whole t new q;
      room = search rules;
    }

pub returns-in-Ok-clause-still : goal.returns-in-Ok-clause-still
returns-in-Ok-clause-still c =
    let t = c.args.self.now in
    pushed_still (image_of t.first) t.calls.items c.note.new.calls.items Accept c.in-Ok.ensures.ok (λ i left. left) (image_of t.now) (image_of t.now) refl

pub returns-in-Ok-clause-time : goal.returns-in-Ok-clause-time
returns-in-Ok-clause-time c =
    let t = c.args.self.now in
    let new = c.note.new.calls.items in
    let e = c.in-Ok.ensures.ok in
    let sent = accept_sent t.past.items t.last (sent_after t.calls.items) t.sends c.reserve.new.self.items c.new.result c.remove.result c.reserve.ensures.items c.requires.free c.new.ensures ∙ sym (pushed_sent (image_of t.first) t.calls.items new Accept e) in
    accept_with (image_of t.first) t.calls.items new e _ (λ s is. is ∙ sym sent)

pub returns-in-Err-clause-still : goal.returns-in-Err-clause-still
returns-in-Err-clause-still c = quiet_rests c.args.self.now c.note.new.calls.items c.in-Err.ensures.err

pub returns-in-Err-clause-time : goal.returns-in-Err-clause-time
returns-in-Err-clause-time c =
    let t = c.args.self.now in
    let sent = ap (λ l. sent_on (connections_on l t.last)) c.reserve.ensures.items ∙ t.sends in
    quiet_passes t c.note.new.calls.items c.in-Err.ensures.err _ (λ s is. is ∙ sym sent)
