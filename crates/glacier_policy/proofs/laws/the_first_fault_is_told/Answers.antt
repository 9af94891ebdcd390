use Rattle.glacier_policy.proofs.FaultLemmas.{policy_answers}
use Rattle.glacier_policy.proofs.laws.the_first_fault_is_told.Goals as goal

pub returns : goal.returns
returns c = policy_answers
