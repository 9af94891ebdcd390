use Rattle.glacier_replay.proofs.ReadStates.{none_kept}
use Rattle.glacier_replay.proofs.standing.no_payload_is_kept_of_none.Goals as goal

pub returns : goal.returns
returns c = none_kept
