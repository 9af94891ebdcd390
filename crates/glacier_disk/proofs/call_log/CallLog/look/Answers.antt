use Rattle.std.proofs.Common.{refl, sym, ◌∙◌}
use Rattle.glacier_disk.proofs.LogSteps.{noted_quietly, quiet_replays, quiet_sends, quiet_whole, quiet_rests, quiet_passes, quiet_grown}
use Rattle.glacier_disk.proofs.call_log.CallLog.look.Goals as goal

pub invariant_of-self : goal.invariant_of-self
invariant_of-self c =
    let t = c.args.self.now in
    let new = c.note.new.calls.items in
    let q = noted_quietly c.note.result c.note.ensures in
    record { replays = quiet_replays t new q; sends = quiet_sends t new q; whole = quiet_whole t new q; room = t.room }

pub returns-clause-still : goal.returns-clause-still
returns-clause-still c = quiet_rests c.args.self.now c.note.new.calls.items (noted_quietly c.note.result c.note.ensures)

pub returns-clause-time : goal.returns-clause-time
returns-clause-time c =
    let t = c.args.self.now in
    quiet_passes t c.note.new.calls.items (noted_quietly c.note.result c.note.ensures) _ (λ s is. is ∙ sym t.sends)

pub returns-clause-connections : goal.returns-clause-connections
returns-clause-connections c = record { grows = quiet_grown c.args.self.now c.note.new.calls.items (noted_quietly c.note.result c.note.ensures); past = refl; last = refl }
