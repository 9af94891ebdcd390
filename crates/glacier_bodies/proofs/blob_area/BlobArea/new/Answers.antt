use Rattle.std.proofs.Common.{sym, subst}
use Rattle.glacier_bodies.specs.BlobAreas.{IsSound}
use Rattle.glacier_bodies.specs.Stands.{Layouts}
use Rattle.glacier_bodies.proofs.SoundLemmas.{sound_empty}
use Rattle.glacier_bodies.proofs.blob_area.BlobArea.new.Goals as goal

pub invariant_of-result : goal.invariant_of-result
invariant_of-result c = subst (λ (blobs : Layouts). IsSound c.in_ok-blocks.blocks blobs) (sym c.new-2.ensures) (sound_empty c.in_ok-blocks.blocks c.free.ensures.rule)
