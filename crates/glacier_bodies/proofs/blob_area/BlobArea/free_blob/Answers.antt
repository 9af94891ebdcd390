use Rattle.std.proofs.Common.{◌+◌, ◌||◌, List, [], sym, ◌∙◌, ap, subst}
use Rattle.std.specs.Prelude.{unwrap_or}
use Rattle.glacier_extents.specs.declared.run.Run.{Run}
use Rattle.glacier_extents.specs.Runs.{has_block, block_count}
use Rattle.glacier_bodies.specs.BlobAreas.{AreaState, IsSound, Releases, without_blob}
use Rattle.glacier_bodies.specs.Stands.{Layouts, at_blob}
use Rattle.glacier_bodies.proofs.SoundLemmas.{sound_more, sound_without, unnamed_without, releases, unnamed_fewer, releases_none}
use Rattle.glacier_bodies.proofs.blob_area.BlobArea.free_blob.Goals as goal

pub invariant_of-self : goal.invariant_of-self
invariant_of-self c =
    let free = c.self.inside.blocks in
    let blobs = c.self.inside.blobs in
    let out : IsSound free (without_blob blobs c.args.account.now c.args.number) = sound_without free blobs c.self.invariant c.args.account.now c.args.number in
    subst (λ (left : Layouts). IsSound c.release.new.self left) (sym c.in-Some.ensures.rest)
    (sound_more free (without_blob blobs c.args.account.now c.args.number) out c.in-Some.layout c.release.new.self c.release.ensures.rule
    (unnamed_without free blobs c.self.invariant c.args.account.now c.args.number c.in-Some.layout (sym c.in-Some.ensures.value))
    (λ b. c.release.ensures.blocks b ∙ ap (λ (rs : List Run). has_block free b || has_block rs b) c.runs.ensures.runs))

pub invariant_of-self-in_default : goal.invariant_of-self-in_default
invariant_of-self-in_default c =
    subst (λ (left : Layouts). IsSound c.self.inside.blocks left) (sym c.in_default.ensures.rest) (sound_without c.self.inside.blocks c.self.inside.blobs c.self.invariant c.args.account.now c.args.number)

pub returns-in-Some-clause-released : goal.returns-in-Some-clause-released
returns-in-Some-clause-released c =
    let free = c.self.inside.blocks in
    let blobs = c.self.inside.blobs in
    let there = c.in-Some.ensures.value in
    let made : Releases (record { free = free; blobs = blobs }) (record { free = c.release.new.self; blobs = without_blob blobs c.args.account.now c.args.number }) c.in-Some.layout =
    releases free c.release.new.self blobs (without_blob blobs c.args.account.now c.args.number) c.in-Some.layout
    (λ b. c.release.ensures.blocks b ∙ ap (λ (rs : List Run). has_block free b || has_block rs b) c.runs.ensures.runs)
    (c.release.ensures.count ∙ ap (λ (rs : List Run). block_count free + block_count rs) c.runs.ensures.runs)
    (λ other unnamed. unnamed_fewer blobs c.args.account.now c.args.number other unnamed) in
    subst (λ (old : AreaState). Releases old (record { free = c.release.new.self; blobs = c.take_blob.new.blobs }) (unwrap_or (at_blob old.blobs c.args.account.now c.args.number) [])) c.self.view_is
    (subst (λ (left : Layouts). Releases (record { free = free; blobs = blobs }) (record { free = c.release.new.self; blobs = left }) (unwrap_or (at_blob blobs c.args.account.now c.args.number) [])) (sym c.in-Some.ensures.rest)
    (subst (λ r. Releases (record { free = free; blobs = blobs }) (record { free = c.release.new.self; blobs = without_blob blobs c.args.account.now c.args.number }) (unwrap_or r [])) there made))

pub returns-in_default-clause-released : goal.returns-in_default-clause-released
returns-in_default-clause-released c =
    let free = c.self.inside.blocks in
    let blobs = c.self.inside.blobs in
    let there = c.in_default.ensures.value in
    let made : Releases (record { free = free; blobs = blobs }) (record { free = free; blobs = without_blob blobs c.args.account.now c.args.number }) [] =
    releases_none free blobs c.args.account.now c.args.number in
    subst (λ (old : AreaState). Releases old (record { free = free; blobs = c.take_blob.new.blobs }) (unwrap_or (at_blob old.blobs c.args.account.now c.args.number) [])) c.self.view_is
    (subst (λ (left : Layouts). Releases (record { free = free; blobs = blobs }) (record { free = free; blobs = left }) (unwrap_or (at_blob blobs c.args.account.now c.args.number) [])) (sym c.in_default.ensures.rest)
    (subst (λ r. Releases (record { free = free; blobs = blobs }) (record { free = free; blobs = without_blob blobs c.args.account.now c.args.number }) (unwrap_or r [])) there made))
