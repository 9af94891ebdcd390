use Rattle.std.proofs.Common.{◌≡◌, ◌+◌, ◌-◌, ◌*◌, ◌%◌, ◌≤◌, ℕ, List, length, take, drop, refl, ◌∙◌, ap, subst, arith}
use Rattle.std.proofs.lemmas.List.{length-take, length-drop}
use Rattle.glacier_disk.specs.declared.area.Area.TheVariants.{Blobs}
use Rattle.glacier_disk.specs.Image.{Image, window}
use Rattle.glacier_extents.specs.Places.{block_size}
use Rattle.glacier_bodies.proofs.CallLemmas.{none_failed, last_failed}
use Rattle.glacier_bodies.proofs.ReadLemmas.{rests_on, read_more, length-put_mid}
use Rattle.glacier_bodies.proofs.reading.read_blob.Goals as goal

pub loop-done-preserved : goal.loop-done-preserved
loop-done-preserved g c =
    let so_far = c.loop-done.invariant in
    let old = g.D.Disk.told c.args.disk.now in
    let mid = g.D.Disk.told c.loop-done.disk in
    let place = c.args.at + c.loop-done.done in
    let done = c.loop-done.done in
    let n = c.min-n.result in
    let into = c.loop-done.into in
    let fits : done + n ≤ length into = omega (arith, c.loop-done-test.true, c.min-n.ensures) in
    let same_size : done + n - done ≡ n = omega arith in
    let size : length (take (done + n - done) (drop done into)) ≡ n = omega (arith, length-take (done + n - done) (drop done into), length-drop done into, fits) in
    let part : length c.read_block.new.into ≡ done + n - done = omega (arith, c.read_block.auto.into, size) in
    let whole = length-put_mid done (done + n - done) into c.read_block.new.into part (omega (arith, fits)) in
    record {
      within = omega (arith, whole, fits);
      opened = c.read_block.ensures.call.opened;
      alone = g.met.D.Disk.by_disk_joins c.args.disk.now c.loop-done.disk c.read_block.new.disk so_far.alone c.read_block.ensures.alone;
      faults = c.in_ok-read_block.ensures.call.tried.cause.ok ∙ so_far.faults;
      rests = rests_on old mid (g.D.Disk.told c.read_block.new.disk) so_far.rests c.read_block.ensures.call.rests;
      bytes = λ t bytes held within. (
          let same : mid.reads Blobs ≡ old.reads Blobs = ap (λ (i : Image). i Blobs) so_far.rests.same in
          let long : c.args.at + length into ≤ length bytes = omega (arith, whole, within) in
          let read : c.read_block.new.into ≡ window (old.reads Blobs) (c.block-block.result * block_size + place % block_size) (length (take (done + n - done) (drop done into))) =
          subst (λ (content : List ℕ). c.read_block.new.into ≡ window content (c.block-block.result * block_size + place % block_size) (length (take (done + n - done) (drop done into)))) same
          (c.in_ok-read_block.ensures.bytes t) in
          read_more c.args.layout.now c.args.at done n (length (take (done + n - done) (drop done into))) (done + n - done) c.block-block.result place (place % block_size) bytes (old.reads Blobs) into
          c.read_block.new.into _ held refl refl c.block-block.ensures.block (omega (arith, c.requires.room, c.loop-done.auto.into, c.loop-done-test.true)) (omega (arith, c.min-n.ensures))
          (omega (arith, long, fits)) read size so_far.within refl (so_far.bytes t bytes held long));
    }

pub returns-in_err-read_block-clause-call : goal.returns-in_err-read_block-clause-call
returns-in_err-read_block-clause-call g c =
    let call = c.in_err-read_block.ensures.call in
    last_failed (g.D.Disk.told c.args.disk.now) (g.D.Disk.told c.loop-done.disk) (g.D.Disk.told c.read_block.new.disk) c.from_residual.result
    c.from_residual.ensures.0 c.loop-done.invariant.faults call.opened call.tried.cause

pub returns-clause-call : goal.returns-clause-call
returns-clause-call g c = none_failed (g.D.Disk.told c.args.disk.now) (g.D.Disk.told c.loop-done.disk) c.loop-done.invariant.opened c.loop-done.invariant.faults
