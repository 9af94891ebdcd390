use Rattle.glacier_vault.proofs.DeletedLemmas.{event_deletes}
use Rattle.glacier_vault.proofs.laws.event_deletes.Goals as goal

pub returns : goal.returns
returns c = event_deletes
