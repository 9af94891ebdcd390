use Rattle.std.proofs.Common.{arith}
use Rattle.glacier_extents.proofs.FreeLemmas.{joined_behind}
use Rattle.glacier_extents.proofs.free_runs.join_behind.Goals as goal

pub returns-then-next-run-clause-blocks : goal.returns-then-next-run-clause-blocks
returns-then-next-run-clause-blocks c = joined_behind c.args.runs.now.items c.remove.new.self.items c.args.at c.args.run c.index-next.result.now (omega arith)
    c.index-next.ensures c.if-next-run.true c.remove.ensures.items
