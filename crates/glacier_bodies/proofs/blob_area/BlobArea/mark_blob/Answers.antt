use Rattle.std.proofs.Common.{rules, IsTrue, true, List, sym, subst, arith}
use Rattle.glacier_extents.specs.declared.run.Run.{Run}
use Rattle.glacier_extents.specs.FreeRuns.{blocks}
use Rattle.glacier_extents.proofs.RunLemmas.{few_blocks}
use Rattle.glacier_bodies.specs.BlobAreas.{IsSound, IsOpen}
use Rattle.glacier_bodies.specs.Stands.{Layouts}
use Rattle.glacier_bodies.proofs.SoundLemmas.{sound_marked, open_marked, sound_named, either_result}
use Rattle.glacier_bodies.proofs.blob_area.BlobArea.mark_blob.Goals as goal

pub of-requires-clause-count : goal.of-requires-clause-count
of-requires-clause-count c =
    let yes : IsTrue true = search rules in
    let few = few_blocks 0 blocks c.self.inside.blocks c.self.invariant.free_runs in
    omega (arith, few, c.if-not-mark.ensures.count yes)

pub invariant_of-self-in-Err : goal.invariant_of-self-in-Err
invariant_of-self-in-Err c =
    let yes : IsTrue true = search rules in
    let both = c.if-not-mark.ensures.free.0 yes in
    sound_marked c.self.inside.blocks c.self.inside.blobs c.self.invariant c.mark.new.self c.args.runs c.mark.ensures.rule both.0 both.1 (c.if-not-mark.ensures.blocks yes)

pub invariant_of-self-2 : goal.invariant_of-self-2
invariant_of-self-2 c =
    let yes : IsTrue true = search rules in
    let both = c.if-not-mark.ensures.free.0 yes in
    let sound = sound_marked c.self.inside.blocks c.self.inside.blobs c.self.invariant c.mark.new.self c.args.runs c.mark.ensures.rule both.0 both.1 (c.if-not-mark.ensures.blocks yes) in
    let opened = open_marked c.self.inside.blocks c.self.inside.blobs c.self.invariant c.mark.new.self c.args.runs c.mark.ensures.rule both.0 both.1 (c.if-not-mark.ensures.blocks yes) in
    let its : IsOpen (record { free = c.mark.new.self; blobs = c.self.inside.blobs }) c.in-Ok.layout =
    subst (λ (rs : List Run). IsOpen (record { free = c.mark.new.self; blobs = c.self.inside.blobs }) rs) (sym c.in-Ok.ensures.ok) opened in
    either_result c.put_blob.result c.put_blob.ensures.ok c.put_blob.ensures.err
    (λ named. subst (λ (blobs : Layouts). IsSound c.mark.new.self blobs) (sym named) (sound_named c.mark.new.self c.self.inside.blobs sound c.args.account c.args.number c.in-Ok.layout its))
    (λ same. subst (λ (blobs : Layouts). IsSound c.mark.new.self blobs) (sym same) sound)
