use Rattle.glacier_replay.proofs.OneStateLemmas.{stands_one}
use Rattle.glacier_replay.proofs.standing.an_image_stands_for_one_state.Goals as goal

pub returns : goal.returns
returns c = stands_one
