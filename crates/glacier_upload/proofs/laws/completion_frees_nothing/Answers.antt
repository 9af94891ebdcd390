use Rattle.glacier_upload.proofs.FreesNothing.{completion-nothing}
use Rattle.glacier_upload.proofs.laws.completion_frees_nothing.Goals as goal

pub returns : goal.returns
returns c account m name number size tree lawful = completion-nothing account m lawful name number size tree
