use Rattle.glacier_machine.proofs.EventLemmas.{events_are_signed}
use Rattle.glacier_machine.proofs.laws.events_are_signed.Goals as goal

pub returns : goal.returns
returns c = events_are_signed
