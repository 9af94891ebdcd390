use Rattle.std.proofs.Common.{arith}
use Rattle.glacier_extents.specs.FreeRuns.{blocks}
use Rattle.glacier_bodies.proofs.LayoutLemmas.{first_start, length_starts, block_found, block_at_bound}
use Rattle.glacier_bodies.proofs.layout.block_of.Goals as goal

pub run_at-at-requires-clause-some : goal.run_at-at-requires-clause-some
run_at-at-requires-clause-some c = (first_start c.args.starts.now c.args.place c.args.runs.now c.requires.starts c.requires.inside).0

pub run_at-at-requires-clause-first : goal.run_at-at-requires-clause-first
run_at-at-requires-clause-first c = (first_start c.args.starts.now c.args.place c.args.runs.now c.requires.starts c.requires.inside).1

pub bounds-runs-at : goal.bounds-runs-at
bounds-runs-at c = omega (arith, length_starts c.args.starts.now c.args.runs.now c.requires.starts, c.run_at-at.ensures.inside)

pub overflow_add-result : goal.overflow_add-result
overflow_add-result c =
    let found = block_found c.args.runs.now c.args.starts.now c.args.place c.run_at-at.result (record { first = 0; count = 0 }) c.requires.starts c.run_at-at.ensures.inside
    c.run_at-at.ensures.from c.run_at-at.ensures.to c.requires.inside in
    omega (arith, found, block_at_bound blocks c.args.runs.now c.args.place c.requires.distinct c.requires.inside)

pub returns-clause-block : goal.returns-clause-block
returns-clause-block c = block_found c.args.runs.now c.args.starts.now c.args.place c.run_at-at.result (record { first = 0; count = 0 }) c.requires.starts c.run_at-at.ensures.inside
    c.run_at-at.ensures.from c.run_at-at.ensures.to c.requires.inside

pub returns-clause-bound : goal.returns-clause-bound
returns-clause-bound c =
    let found = block_found c.args.runs.now c.args.starts.now c.args.place c.run_at-at.result (record { first = 0; count = 0 }) c.requires.starts c.run_at-at.ensures.inside
    c.run_at-at.ensures.from c.run_at-at.ensures.to c.requires.inside in
    omega (arith, found, block_at_bound blocks c.args.runs.now c.args.place c.requires.distinct c.requires.inside)
