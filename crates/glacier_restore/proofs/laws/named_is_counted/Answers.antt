use Rattle.glacier_restore.proofs.CountLemmas.{uncounted}
use Rattle.glacier_restore.proofs.NamedLemmas.{new_counts}
use Rattle.glacier_restore.proofs.laws.named_is_counted.Goals as goal

pub returns : goal.returns
returns c account blob = (new_counts blob account, uncounted blob account)
