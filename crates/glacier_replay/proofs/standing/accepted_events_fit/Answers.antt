use Rattle.glacier_replay.proofs.StateLemmas.{accepted_fits}
use Rattle.glacier_replay.proofs.standing.accepted_events_fit.Goals as goal

pub returns : goal.returns
returns c = accepted_fits
