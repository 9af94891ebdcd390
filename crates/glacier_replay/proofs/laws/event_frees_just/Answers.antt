use Rattle.glacier_replay.proofs.FreedLemmas.{frees_exactly, frees_just}
use Rattle.glacier_replay.proofs.laws.event_frees_just.Goals as goal

pub returns-clause-just : goal.returns-clause-just
returns-clause-just c = frees_just

pub returns-clause-exactly : goal.returns-clause-exactly
returns-clause-exactly c = frees_exactly
