use Rattle.glacier_machine.proofs.EventLemmas.{time_passes, refused_does_nothing, refused_gets_its_reply}
use Rattle.glacier_machine.proofs.laws.refused_requests_only_pass.Goals as goal

pub returns : goal.returns
returns c = record { passed = time_passes; done = refused_does_nothing; reply = refused_gets_its_reply }
