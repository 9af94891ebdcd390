use Rattle.glacier_replay.proofs.HeldBlobs as held
use Rattle.glacier_replay.proofs.laws.held_stays.Goals as goal

pub returns-clause-bytes : goal.returns-clause-bytes
returns-clause-bytes c state h lawful = held.held_stays state.accounts state.bodies h.account h.moment h.event h.body lawful

pub returns-clause-runs : goal.returns-clause-runs
returns-clause-runs c holdings account m event runs lawful = held.held_stays holdings.accounts holdings.layouts account m event runs lawful
