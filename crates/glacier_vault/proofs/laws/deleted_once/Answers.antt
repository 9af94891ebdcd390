use Rattle.glacier_vault.proofs.DeletedLemmas.{deleted_once}
use Rattle.glacier_vault.proofs.laws.deleted_once.Goals as goal

pub returns : goal.returns
returns c = deleted_once
