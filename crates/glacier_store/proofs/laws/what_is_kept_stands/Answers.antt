use Rattle.glacier_store.proofs.KeptLemmas.{kept_stands}
use Rattle.glacier_store.proofs.laws.what_is_kept_stands.Goals as goal

pub returns : goal.returns
returns g c state kept = kept_stands (g.D.Disk.told c.args.disk.now) c.args.store.now.journal c.args.store.now.area.blobs state kept.held
