use Rattle.std.proofs.Common.{◌+◌, ◌||◌, List, ◌∙◌, ap, subst}
use Rattle.glacier_extents.specs.declared.run.Run.{Run}
use Rattle.glacier_extents.specs.Runs.{has_block, block_count}
use Rattle.glacier_bodies.specs.BlobAreas.{AreaState, Releases}
use Rattle.glacier_bodies.proofs.SoundLemmas.{sound_more, releases}
use Rattle.glacier_bodies.proofs.blob_area.BlobArea.release.Goals as goal

pub invariant_of-self : goal.invariant_of-self
invariant_of-self c =
    let view = c.self.view_is in
    let same = c.runs.ensures.runs in
    sound_more c.self.inside.blocks c.self.inside.blobs c.self.invariant c.args.layout c.release.new.self c.release.ensures.rule
    (rw (← view) at c.requires.unnamed)
    (λ b. c.release.ensures.blocks b ∙ ap (λ (rs : List Run). has_block c.self.inside.blocks b || has_block rs b) same)

pub returns-clause-released : goal.returns-clause-released
returns-clause-released c =
    let same = c.runs.ensures.runs in
    subst (λ (old : AreaState). Releases old (record { free = c.release.new.self; blobs = c.self.inside.blobs }) c.args.layout) c.self.view_is
    (releases c.self.inside.blocks c.release.new.self c.self.inside.blobs c.self.inside.blobs c.args.layout
    (λ b. c.release.ensures.blocks b ∙ ap (λ (rs : List Run). has_block c.self.inside.blocks b || has_block rs b) same)
    (c.release.ensures.count ∙ ap (λ (rs : List Run). block_count c.self.inside.blocks + block_count rs) same)
    (λ other unnamed. unnamed))
