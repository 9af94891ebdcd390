use Rattle.glacier_store.proofs.StreamLemmas.{streamed}
use Rattle.glacier_store.proofs.store.Store.body_piece.Goals as goal

pub returns-clause-keeps : goal.returns-clause-keeps
returns-clause-keeps g c t =
    streamed (g.D.Disk.told c.args.disk.now) (g.D.Disk.told c.body_piece.new.disk) c.args.self.now.journal c.args.self.now.area.blobs c.args.body.now.layout
    (g.met.D.Disk.lawful t c.args.disk.now) (c.body_piece.ensures.streams t)
