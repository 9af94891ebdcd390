use Rattle.std.proofs.Common.{arith}
use Rattle.glacier_extents.proofs.FreeLemmas.{room_for, inserted_runs, inserted_block, inserted_count}
use Rattle.glacier_extents.proofs.free_runs.put_in.Goals as goal

pub insert_at-requires-clause-room : goal.insert_at-requires-clause-room
insert_at-requires-clause-room c =
    let less = room_for c.args.at c.args.runs.now.items c.args.run (c.requires.free c.if-run-gt0.true) in
    omega (arith, less, c.requires.room)

pub returns-then-run-gt0-clause-runs : goal.returns-then-run-gt0-clause-runs
returns-then-run-gt0-clause-runs c = rw c.insert_at.ensures.items (inserted_runs c.args.at c.args.runs.now.items c.args.run (c.requires.free c.if-run-gt0.true))

pub returns-then-run-gt0-clause-blocks : goal.returns-then-run-gt0-clause-blocks
returns-then-run-gt0-clause-blocks c = rw c.insert_at.ensures.items (inserted_block c.args.runs.now.items c.args.at c.args.run)

pub returns-then-run-gt0-clause-count : goal.returns-then-run-gt0-clause-count
returns-then-run-gt0-clause-count c = rw c.insert_at.ensures.items (inserted_count c.args.runs.now.items c.args.at c.args.run)
