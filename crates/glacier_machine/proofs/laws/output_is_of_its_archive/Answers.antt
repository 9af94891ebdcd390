use Rattle.glacier_machine.proofs.OutputLemmas.{output_is_a_stretch}
use Rattle.glacier_machine.proofs.laws.output_is_of_its_archive.Goals as goal

pub returns : goal.returns
returns c account name job range inventory lawful order = output_is_a_stretch account lawful name job range inventory order
