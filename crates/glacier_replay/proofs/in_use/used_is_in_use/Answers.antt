use Rattle.glacier_replay.proofs.UsedLemmas.{made_used}
use Rattle.glacier_replay.proofs.in_use.used_is_in_use.Goals as goal

pub returns : goal.returns
returns c = made_used
