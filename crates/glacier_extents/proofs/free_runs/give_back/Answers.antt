use Rattle.std.proofs.Common.{◌-◌, length, ap, arith}
use Rattle.glacier_extents.specs.FreeRuns.{run_at}
use Rattle.glacier_extents.proofs.FreeLemmas.{fit_at, inserted_runs, room_for, same_blocks_on, same_count_on}
use Rattle.glacier_extents.proofs.free_runs.give_back.Goals as goal

pub join_behind-joined-requires : goal.join_behind-joined-requires
join_behind-joined-requires c =
    let runs = c.args.runs.now.items in
    let at = c.place_of-at.result in
    let of = c.place_of-at.ensures in
    let same = c.deref.ensures.value in
    fit_at at runs c.args.run c.requires.runs c.requires.some c.requires.high c.requires.used (omega (arith, ap length same, of.within))
    (λ some. omega (arith, ap (λ rs. (run_at rs (at - 1)).first) same, of.before some)) (λ less. omega (arith, ap (λ rs. (run_at rs at).first) same, of.behind (omega (arith, ap length same, less))))

pub insert_at-requires-clause-room : goal.insert_at-requires-clause-room
insert_at-requires-clause-room c =
    let less = room_for c.join_before-at.result.0 c.join_before-at.new.runs.items c.join_before-at.result.1 c.join_before-at.ensures.fit in
    omega (arith, less, c.join_before-at.ensures.room, c.join_behind-joined.ensures.room, c.requires.room)

pub returns-clause-runs : goal.returns-clause-runs
returns-clause-runs c = rw c.insert_at.ensures.items (inserted_runs c.join_before-at.result.0 c.join_before-at.new.runs.items c.join_before-at.result.1 c.join_before-at.ensures.fit)

pub returns-clause-blocks : goal.returns-clause-blocks
returns-clause-blocks c = rw c.insert_at.ensures.items (same_blocks_on c.args.runs.now.items c.join_behind-joined.new.runs.items c.join_before-at.result.0 c.args.run c.join_behind-joined.result
    c.join_before-at.result.1 c.join_before-at.new.runs.items c.join_behind-joined.ensures.blocks c.join_before-at.ensures.blocks)

pub returns-clause-count : goal.returns-clause-count
returns-clause-count c = rw c.insert_at.ensures.items (same_count_on c.args.runs.now.items c.join_behind-joined.new.runs.items c.join_before-at.result.0 c.args.run c.join_behind-joined.result
    c.join_before-at.result.1 c.join_before-at.new.runs.items c.join_behind-joined.ensures.blocks c.join_before-at.ensures.blocks)
