use Rattle.glacier_store.proofs.OutputLemmas.{whole_length, whole_part}
use Rattle.glacier_store.proofs.output_laws.outputs_are_whole.Goals as goal

pub returns-clause-length : goal.returns-clause-length
returns-clause-length c = whole_length

pub returns-clause-part : goal.returns-clause-part
returns-clause-part c = whole_part
