use Rattle.glacier_replay.proofs.ReadStates.{told_held}
use Rattle.glacier_replay.proofs.standing.told_bodies_are_held.Goals as goal

pub returns : goal.returns
returns c = told_held
