use Rattle.glacier_replay.proofs.InUseLemmas.{below_used}
use Rattle.glacier_replay.proofs.in_use.bodies_stay_below.Goals as goal

pub returns : goal.returns
returns c = below_used
