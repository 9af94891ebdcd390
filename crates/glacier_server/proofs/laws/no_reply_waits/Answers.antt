use Rattle.glacier_server.proofs.AllSentLemmas.{all_waiting}
use Rattle.glacier_server.proofs.laws.no_reply_waits.Goals as goal

pub returns : goal.returns
returns c = all_waiting
