use Rattle.std.proofs.Common.{◌-◌, arith}
use Rattle.glacier_extents.proofs.FreeLemmas.{last_part, joined_before, free_joined, free_apart}
use Rattle.glacier_extents.proofs.free_runs.join_before.Goals as goal

pub overflow_add-last : goal.overflow_add-last
overflow_add-last c =
    let of = last_part 0 c.args.run.first c.args.at c.args.runs.now.items c.index-last.result.now c.requires.fit.before (omega arith) c.requires.fit.within c.index-last.ensures in
    omega (arith, of.to, c.requires.fit.high)

pub returns-then-last-run-clause-fit : goal.returns-then-last-run-clause-fit
returns-then-last-run-clause-fit c = free_joined c.args.at c.args.runs.now.items c.remove.new.self.items c.args.run c.index-last.result.now c.requires.fit c.requires.gap (omega arith)
    c.index-last.ensures c.if-last-run.true c.remove.ensures.items

pub returns-then-last-run-clause-blocks : goal.returns-then-last-run-clause-blocks
returns-then-last-run-clause-blocks c = joined_before c.args.runs.now.items c.remove.new.self.items (c.args.at - 1) c.args.run c.index-last.result.now (omega (arith, c.requires.fit.within))
    c.index-last.ensures c.if-last-run.true c.remove.ensures.items

pub returns-else-last-run-clause-fit : goal.returns-else-last-run-clause-fit
returns-else-last-run-clause-fit c = free_apart c.args.at c.args.runs.now.items c.args.run c.index-last.result.now c.requires.fit c.requires.gap c.if-at-gt0.true
    c.index-last.ensures c.if-last-run.false
