use Rattle.glacier_store.proofs.StepLemmas.{moment_made, step_made}
use Rattle.glacier_store.proofs.UploadLemmas.{archive_made}
use Rattle.glacier_store.proofs.laws.steps_are_done_again.Goals as goal

pub returns : goal.returns
returns c = record { step = step_made; upload = archive_made; time = moment_made }
