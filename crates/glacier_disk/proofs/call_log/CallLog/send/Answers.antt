use Rattle.std.proofs.Common.{[], refl, sym, ◌∙◌, ap, take, is_some}
use Rattle.std.proofs.lemmas.List.{append-nil}
use Rattle.glacier_disk.specs.Contents.{image_of}
use Rattle.glacier_disk.specs.declared.call.Call.TheVariants.{Send}
use Rattle.glacier_disk.specs.Network.{Connection, on_last}
use Rattle.glacier_disk.proofs.Connections.{on_last-nil}
use Rattle.glacier_disk.proofs.LogSends.{none_sends, more_sends, more_whole}
use Rattle.glacier_disk.proofs.LogSteps.{quiet_replays, quiet_whole, quiet_rests, quiet_passes, pushed_replays}
use Rattle.glacier_disk.proofs.Sending.{fails_to_send}
use Rattle.glacier_disk.proofs.With.{pushed_still, send_with}
use Rattle.glacier_disk.proofs.call_log.CallLog.send.Goals as goal

pub invariant_of-self : goal.invariant_of-self
invariant_of-self c =
    let t = c.args.self.now in
    let new = c.send.new.calls.items in
    let bytes = c.args.bytes.now in
    let e = c.in-Ok.ensures.noted.ok in
    record {
      replays = pushed_replays t new (Send bytes) (image_of t.now) e refl;
      sends = more_sends t c.in-Some.connection c.send.new.connection c.in-Some.is new bytes e c.in-Ok.ensures.connection.sent;
      whole = c.in-Ok.ensures.all ∙ more_whole t c.in-Some.connection c.send.new.connection c.in-Some.is new bytes e;
      room = λ s. t.room (ap is_some c.in-Some.is);
    }

pub invariant_of-self-in-Err : goal.invariant_of-self-in-Err
invariant_of-self-in-Err c =
    let t = c.args.self.now in
    let new = c.send.new.calls.items in
    let q = c.in-Err.ensures.noted.err in
    let same = (c.send_none.ensures []).sent ∙ append-nil _ ∙ ap (λ (l : Connection). l.sent) c.in-Err.ensures.same_connection in
    record {
      replays = quiet_replays t new q;
      sends = none_sends t c.in-Some.connection c.send_none.new.self c.in-Some.is new q same;
      whole = c.in-Err.ensures.same ∙ quiet_whole t new q;
      room = λ s. t.room (ap is_some c.in-Some.is);
    }

pub returns-in-Ok-clause-call : goal.returns-in-Ok-clause-call
returns-in-Ok-clause-call c = let t = c.args.self.now in record { connected = refl; still = pushed_still (image_of t.first) t.calls.items c.send.new.calls.items (Send c.args.bytes.now) c.in-Ok.ensures.noted.ok (λ i left. left) (image_of t.now) (image_of t.now) refl }

pub returns-in-Ok-clause-time : goal.returns-in-Ok-clause-time
returns-in-Ok-clause-time c =
    let t = c.args.self.now in
    send_with (image_of t.first) t.calls.items c.send.new.calls.items c.args.bytes.now c.in-Ok.ensures.noted.ok _ (λ n s is. (n, is ∙ ap (on_last (take n c.args.bytes.now)) (sym t.sends)))

pub returns-in-Err-clause-call : goal.returns-in-Err-clause-call
returns-in-Err-clause-call c = record { connected = refl; still = quiet_rests c.args.self.now c.send.new.calls.items c.in-Err.ensures.noted.err }

pub returns-in-Err-clause-no_time : goal.returns-in-Err-clause-no_time
returns-in-Err-clause-no_time c =
    let t = c.args.self.now in
    quiet_passes t c.send.new.calls.items c.in-Err.ensures.noted.err _ (λ s is. (0, is ∙ sym t.sends ∙ sym (on_last-nil _)))

pub returns-in-Err-clause-failed : goal.returns-in-Err-clause-failed
returns-in-Err-clause-failed c =
    let t = c.args.self.now in
    fails_to_send t.past.items t.last c.in-Some.connection c.send.new.connection c.send_none.new.self c.args.bytes.now c.in-Some.is c.in-Err.ensures.same_connection (c.send_none.ensures c.args.bytes.now)
