use Rattle.glacier_restore.proofs.ItemLengths.{account_is}
use Rattle.glacier_restore.proofs.laws.snapshot_length_is_kept.Goals as goal

pub returns : goal.returns
returns c account runs lawful = account_is runs account lawful
