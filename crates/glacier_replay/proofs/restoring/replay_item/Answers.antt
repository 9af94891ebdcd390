use Rattle.glacier_replay.proofs.restoring.replay_item.Goals as goal

pub returns-in-Event-clause-fits : goal.returns-in-Event-clause-fits
returns-in-Event-clause-fits c = rw c.in-Event.is c.replay_event.ensures.fits
