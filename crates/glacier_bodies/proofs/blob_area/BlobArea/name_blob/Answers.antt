use Rattle.std.proofs.Common.{sym, subst}
use Rattle.glacier_bodies.specs.BlobAreas.{AreaState, IsSound, IsOpen}
use Rattle.glacier_bodies.specs.Stands.{Layouts}
use Rattle.glacier_bodies.proofs.SoundLemmas.{sound_named, either_result}
use Rattle.glacier_bodies.proofs.blob_area.BlobArea.name_blob.Goals as goal

pub invariant_of-self : goal.invariant_of-self
invariant_of-self c =
    let its : IsOpen (record { free = c.self.inside.blocks; blobs = c.self.inside.blobs }) c.args.layout = subst (λ (a : AreaState). IsOpen a c.args.layout) (sym c.self.view_is) c.requires.open in
    either_result c.put_blob.result c.put_blob.ensures.ok c.put_blob.ensures.err
    (λ named. subst (λ (blobs : Layouts). IsSound c.self.inside.blocks blobs) (sym named) (sound_named c.self.inside.blocks c.self.inside.blobs c.self.invariant c.args.account c.args.number c.args.layout its))
    (λ same. subst (λ (blobs : Layouts). IsSound c.self.inside.blocks blobs) (sym same) c.self.invariant)
