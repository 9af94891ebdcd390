use Rattle.glacier_upload.proofs.FreesNothing.{begin-nothing}
use Rattle.glacier_upload.proofs.laws.begin_frees_nothing.Goals as goal

pub returns : goal.returns
returns c account m name part_size description lawful = begin-nothing account m lawful name part_size description
