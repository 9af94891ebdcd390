use Rattle.std.proofs.Common.{[], arith}
use Rattle.glacier_extents.specs.FreeRuns.{blocks}
use Rattle.glacier_store.specs.Calls.{event_at}
use Rattle.glacier_store.proofs.RoomLemmas.{short_record}
use Rattle.glacier_store.proofs.committing.record_frame.Goals as goal

pub of-requires : goal.of-requires
of-requires c =
    let short = short_record blocks c.in_ok-text.text (event_at c.args.account.now c.args.m c.args.event.now []) c.args.runs.now c.in_ok-text.ensures c.requires.leaves c.requires.runs in
    rw c.bytes.ensures (omega (arith, short))
