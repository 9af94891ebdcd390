use Rattle.glacier_restore.proofs.SnapshotLaw.{account_again}
use Rattle.glacier_restore.proofs.laws.snapshot_restores.Goals as goal

pub returns : goal.returns
returns c account runs lawful sound = account_again runs account lawful sound
