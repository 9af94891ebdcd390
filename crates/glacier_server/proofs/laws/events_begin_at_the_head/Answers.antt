use Rattle.glacier_server.proofs.EventLemmas.{begin_at_the_head}
use Rattle.glacier_server.proofs.laws.events_begin_at_the_head.Goals as goal

pub returns : goal.returns
returns c = begin_at_the_head
