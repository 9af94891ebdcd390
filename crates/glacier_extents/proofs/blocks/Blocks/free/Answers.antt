use Rattle.std.proofs.Common.{arith}
use Rattle.glacier_extents.specs.FreeRuns.{blocks}
use Rattle.glacier_extents.proofs.RunLemmas.{few_blocks}
use Rattle.glacier_extents.proofs.blocks.Blocks.free.Goals as goal

pub returns-clause-bound : goal.returns-clause-bound
returns-clause-bound c = omega (arith, c.self.invariant.count_is, few_blocks 0 blocks c.self.inside.runs.items c.self.invariant.runs_are)
