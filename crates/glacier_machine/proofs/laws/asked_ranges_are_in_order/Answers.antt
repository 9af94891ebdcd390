use Rattle.glacier_machine.proofs.AskLemmas.{job_ask_is_in_order}
use Rattle.glacier_machine.proofs.laws.asked_ranges_are_in_order.Goals as goal

pub returns : goal.returns
returns c = job_ask_is_in_order
