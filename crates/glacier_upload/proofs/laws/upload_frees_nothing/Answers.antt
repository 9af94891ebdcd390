use Rattle.glacier_upload.proofs.FreesNothing.{upload-nothing}
use Rattle.glacier_upload.proofs.laws.upload_frees_nothing.Goals as goal

pub returns : goal.returns
returns c account m ask found lawful = upload-nothing account m lawful ask found
