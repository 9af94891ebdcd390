use Rattle.std.proofs.Common.{◌||◌, List, [], refl, sym, ◌∙◌, ap, subst}
use Rattle.glacier_extents.specs.declared.run.Run.{Run}
use Rattle.glacier_extents.specs.Runs.{has_block, AreDistinct}
use Rattle.glacier_extents.proofs.MarkLemmas.{given_back}
use Rattle.glacier_treehash.proofs.LeavesLemmas.{digests-none}
use Rattle.glacier_bodies.specs.BlobAreas.{AreaState, IsSound, IsOpen}
use Rattle.glacier_bodies.specs.Blobs.{IsApart}
use Rattle.glacier_extents.specs.FreeRuns.{blocks}
use Rattle.glacier_extents.proofs.CountLemmas.{distinct_runs}
use Rattle.glacier_bodies.proofs.SoundLemmas.{sound_fewer, fewer, open_claimed, open_still}
use Rattle.glacier_bodies.proofs.blob_area.BlobArea.begin_body.Goals as goal

pub of-requires-clause-distinct : goal.of-requires-clause-distinct
of-requires-clause-distinct c = distinct_runs 0 blocks c.in_ok-runs.runs c.in_ok-runs.ensures.ok.fewest

pub invariant_of-self-in-Ok : goal.invariant_of-self-in-Ok
invariant_of-self-in-Ok c = sound_fewer c.self.inside.blocks c.self.inside.blobs c.self.invariant c.claim.new.self c.in_ok-runs.ensures.rule
    (fewer c.self.inside.blocks c.self.inside.blobs c.self.invariant c.div_ceil-need.result c.claim.new.self c.in_ok-runs.runs c.in_ok-runs.ensures.ok)

pub release-requires-clause-distinct : goal.release-requires-clause-distinct
release-requires-clause-distinct c = subst (λ (rs : List Run). AreDistinct blocks rs) (sym c.in-Err.ensures.err) (distinct_runs 0 blocks c.in_ok-runs.runs c.in_ok-runs.ensures.ok.fewest)

pub invariant_of-self-in-Err-1 : goal.invariant_of-self-in-Err-1
invariant_of-self-in-Err-1 c =
    let back = given_back c.self.inside.blocks c.claim.new.self c.release.new.self c.in_ok-runs.runs c.self.invariant.free_runs c.release.ensures.rule c.in_ok-runs.ensures.ok.free c.in_ok-runs.ensures.ok.rest
    (λ b. c.release.ensures.blocks b ∙ ap (λ (rs : List Run). has_block c.claim.new.self b || has_block rs b) c.in-Err.ensures.err) in
    subst (λ (free : List Run). IsSound free c.self.inside.blobs) (sym back) c.self.invariant

pub returns-in-Ok-clause-opened : goal.returns-in-Ok-clause-opened
returns-in-Ok-clause-opened c = subst (λ (rs : List Run). IsOpen (record { free = c.claim.new.self; blobs = c.self.inside.blobs }) rs) (sym c.in-Ok.ensures.ok)
    (open_claimed c.self.inside.blocks c.self.inside.blobs c.self.invariant c.div_ceil-need.result c.claim.new.self c.in_ok-runs.runs c.in_ok-runs.ensures.ok)

pub returns-in-Ok-clause-empty : goal.returns-in-Ok-clause-empty
returns-in-Ok-clause-empty c = record { taken = refl; linear = c.new.ensures; leaves = sym (digests-none 1048576 []) }

pub returns-in-Ok-clause-others : goal.returns-in-Ok-clause-others
returns-in-Ok-clause-others c = λ runs is.
    let its : IsOpen (record { free = c.self.inside.blocks; blobs = c.self.inside.blobs }) runs = subst (λ (a : AreaState). IsOpen a runs) (sym c.self.view_is) is in
    let both = open_still c.self.inside.blocks c.self.inside.blobs c.self.invariant c.div_ceil-need.result c.claim.new.self c.in_ok-runs.runs c.in_ok-runs.ensures.ok runs its in
    (both.0, subst (λ (rs : List Run). IsApart (has_block rs) runs) (sym c.in-Ok.ensures.ok) both.1)

pub returns-in-Err-clause-err : goal.returns-in-Err-clause-err
returns-in-Err-clause-err c =
    let back = given_back c.self.inside.blocks c.claim.new.self c.release.new.self c.in_ok-runs.runs c.self.invariant.free_runs c.release.ensures.rule c.in_ok-runs.ensures.ok.free c.in_ok-runs.ensures.ok.rest
    (λ b. c.release.ensures.blocks b ∙ ap (λ (rs : List Run). has_block c.claim.new.self b || has_block rs b) c.in-Err.ensures.err) in
    ap (λ (free : List Run). let a : AreaState = record { free = free; blobs = c.self.inside.blobs } in a) back ∙ c.self.view_is
