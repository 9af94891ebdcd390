use Rattle.glacier_replay.proofs.StateLemmas.{state_after}
use Rattle.glacier_replay.proofs.standing.events_keep_the_state.Goals as goal

pub returns : goal.returns
returns c = state_after
