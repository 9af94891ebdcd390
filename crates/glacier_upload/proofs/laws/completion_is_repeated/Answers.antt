use Rattle.glacier_upload.proofs.Accepted.{repeated}
use Rattle.glacier_upload.proofs.laws.completion_is_repeated.Goals as goal

pub returns : goal.returns
returns c account after m later name number size tree archive change accepted = repeated account m later name number size tree after archive change accepted
