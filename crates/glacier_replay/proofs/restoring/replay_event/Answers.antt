use Rattle.std.proofs.Common.{rules, ◌≡◌, IsTrue, true}
use Rattle.glacier_replay.specs.Restoring.{holdings_of}
use Rattle.glacier_replay.proofs.RestoredLemmas.{apart_new, done_again}
use Rattle.glacier_replay.proofs.restoring.replay_event.Goals as goal

pub free_blobs-requires-clause-apart : goal.free_blobs-requires-clause-apart
free_blobs-requires-clause-apart c =
    let yes : IsTrue c.in_ok-take_blocks.field-0 = search rules in
    apart_new c.args.restored.now.area.blobs c.take_blocks.new.area.blobs c.args.account.now c.take-state.result.counter c.args.event.now c.args.runs.now
    c.requires.settled.apart (c.in_ok-take_blocks.ensures.fits.0 yes) (c.in_ok-take_blocks.ensures.blobs yes)

pub returns-clause-after : goal.returns-clause-after
returns-clause-after c _ =
    let fits : c.in_ok-done.done.fits ≡ true = search rules in
    let yes : IsTrue c.in_ok-take_blocks.field-0 = search rules in
    done_again (holdings_of c.args.restored.now) c.args.account.now c.args.m c.args.event.now c.args.runs.now c.take-state.result c.replay.new.state c.in_ok-done.done
    c.take-state.new.self c.put.new.self c.take_blocks.new.area.blobs c.free_blobs.new.area.blobs c.take-state.ensures.state c.in_ok-done.ensures.answer fits c.in_ok-done.ensures.state
    c.take-state.ensures.rest c.in_ok-put.ensures (c.in_ok-take_blocks.ensures.blobs yes) (search rules)
