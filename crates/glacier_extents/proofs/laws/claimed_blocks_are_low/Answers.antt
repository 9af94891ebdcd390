use Rattle.glacier_extents.proofs.CountLemmas.{claimed_low}
use Rattle.glacier_extents.proofs.laws.claimed_blocks_are_low.Goals as goal

pub returns : goal.returns
returns c = claimed_low
