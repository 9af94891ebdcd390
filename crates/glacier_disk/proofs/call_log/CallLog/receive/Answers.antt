use Rattle.std.proofs.Common.{refl, sym, ◌∙◌, ap, is_some}
use Rattle.glacier_disk.proofs.LogSends.{none_sends, none_sent}
use Rattle.glacier_disk.proofs.LogSteps.{noted_quietly, quiet_replays, quiet_whole, quiet_rests, quiet_passes}
use Rattle.glacier_disk.proofs.call_log.CallLog.receive.Goals as goal

pub invariant_of-self : goal.invariant_of-self
invariant_of-self c =
    let t = c.args.self.now in
    let new = c.note.new.calls.items in
    let q = noted_quietly c.note.result c.note.ensures in
    record {
      replays = quiet_replays t new q;
      sends = none_sends t c.in-Some.connection c.take.new.self c.in-Some.is new q c.take.ensures.takes.sent;
      whole = quiet_whole t new q;
      room = λ s. t.room (ap is_some c.in-Some.is);
    }

pub invariant_of-self-in-Err : goal.invariant_of-self-in-Err
invariant_of-self-in-Err c =
    let t = c.args.self.now in
    let new = c.note.new.calls.items in
    let q = noted_quietly c.note.result c.note.ensures in
    record {
      replays = quiet_replays t new q;
      sends = none_sends t c.in-Some.connection c.take_none.new.self c.in-Some.is new q c.take_none.ensures.sent;
      whole = quiet_whole t new q;
      room = λ s. t.room (ap is_some c.in-Some.is);
    }

pub returns-in-Ok-clause-call : goal.returns-in-Ok-clause-call
returns-in-Ok-clause-call c =
    let q = noted_quietly c.note.result c.note.ensures in
    record { connected = refl; still = quiet_rests c.args.self.now c.note.new.calls.items q }

pub returns-in-Ok-clause-time : goal.returns-in-Ok-clause-time
returns-in-Ok-clause-time c =
    let t = c.args.self.now in
    let sent = none_sent t c.in-Some.connection c.take.new.self c.in-Some.is c.take.ensures.takes.sent in
    quiet_passes t c.note.new.calls.items (noted_quietly c.note.result c.note.ensures) _ (λ s is. is ∙ sym sent)

pub returns-in-Err-clause-call : goal.returns-in-Err-clause-call
returns-in-Err-clause-call c =
    let q = noted_quietly c.note.result c.note.ensures in
    record { connected = refl; still = quiet_rests c.args.self.now c.note.new.calls.items q }

pub returns-in-Err-clause-time : goal.returns-in-Err-clause-time
returns-in-Err-clause-time c =
    let t = c.args.self.now in
    let sent = none_sent t c.in-Some.connection c.take_none.new.self c.in-Some.is c.take_none.ensures.sent in
    quiet_passes t c.note.new.calls.items (noted_quietly c.note.result c.note.ensures) _ (λ s is. is ∙ sym sent)
