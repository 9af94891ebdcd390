use Rattle.std.proofs.Common.{rules, IsTrue, true, ap, arith}
use Rattle.glacier_extents.specs.Runs.{block_count}
use Rattle.glacier_extents.specs.FreeRuns.{blocks}
use Rattle.glacier_extents.proofs.RunLemmas.{few_blocks}
use Rattle.glacier_extents.proofs.blocks.Blocks.mark.Goals as goal

pub count_of-requires : goal.count_of-requires
count_of-requires c =
    let yes : IsTrue true = search rules in
    let few = few_blocks 0 blocks c.self.inside.runs.items c.self.invariant.runs_are in
    omega (arith, few, c.if-not-mark_runs.ensures.count yes, ap block_count c.as_slice.ensures, ap block_count c.as_slice-2.ensures)
