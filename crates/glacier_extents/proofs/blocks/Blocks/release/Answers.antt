use Rattle.std.proofs.Common.{ap, arith}
use Rattle.glacier_extents.specs.Runs.{block_count}
use Rattle.glacier_extents.specs.FreeRuns.{blocks}
use Rattle.glacier_extents.proofs.RunLemmas.{few_blocks}
use Rattle.glacier_extents.proofs.blocks.Blocks.release.Goals as goal

pub count_of-requires : goal.count_of-requires
count_of-requires c =
    let few = few_blocks 0 blocks c.release_runs.new.free.items c.release_runs.ensures.runs in
    omega (arith, few, c.release_runs.ensures.count, ap block_count c.as_slice.ensures, ap block_count c.as_slice-2.ensures)

pub overflow_add-self : goal.overflow_add-self
overflow_add-self c =
    let few = few_blocks 0 blocks c.release_runs.new.free.items c.release_runs.ensures.runs in
    omega (arith, few, c.count_of.ensures, c.self.invariant.count_is, c.release_runs.ensures.count, ap block_count c.as_slice.ensures, ap block_count c.as_slice-2.ensures)
