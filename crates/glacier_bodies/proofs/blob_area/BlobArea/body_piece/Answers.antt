use Rattle.glacier_extents.specs.Runs.{has_block}
use Rattle.glacier_bodies.proofs.KeepLemmas.{keeps_images}
use Rattle.glacier_bodies.proofs.blob_area.BlobArea.body_piece.Goals as goal

pub returns-clause-streams : goal.returns-clause-streams
returns-clause-streams g c = λ t. record {
  own = c.take_piece.ensures.own t;
  kept = λ bodies held. keeps_images (has_block c.args.body.now.layout) c.args.self.now.blobs bodies (g.D.Disk.told c.args.disk.now)
      (g.D.Disk.told c.take_piece.new.disk) (c.take_piece.ensures.own t) c.requires.body.unnamed held;
}
