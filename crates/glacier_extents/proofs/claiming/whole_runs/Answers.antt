use Rattle.std.proofs.Common.{arith}
use Rattle.glacier_extents.proofs.ClaimLemmas.{count_more}
use Rattle.glacier_extents.proofs.claiming.whole_runs.Goals as goal

pub loop-i-preserved : goal.loop-i-preserved
loop-i-preserved c = omega (arith, c.loop-i.invariant, count_more c.args.runs.now c.loop-i.i c.loop-i-test.true)
