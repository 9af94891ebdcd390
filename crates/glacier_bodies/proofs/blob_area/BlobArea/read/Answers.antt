use Rattle.std.proofs.Common.{◌≡◌, ◌+◌, ◌-◌, ◌*◌, ◌<◌, ◌≤◌, min, ℕ, List, length, take, drop, refl, sym, ◌∙◌, ap, subst, arith}
use borrow.Rule.Slice.PartMut.{put_mid}
use Rattle.std.proofs.lemmas.List.{length-take, length-drop}
use Rattle.glacier_disk.specs.declared.area.Area.TheVariants.{Blobs}
use Rattle.glacier_disk.specs.Image.{Image}
use Rattle.glacier_extents.specs.declared.run.Run.{Run}
use Rattle.glacier_extents.specs.Places.{block_size}
use Rattle.glacier_extents.specs.Runs.{block_count}
use Rattle.glacier_bodies.specs.BlobAreas.{runs_of}
use Rattle.glacier_bodies.specs.Blobs.{Holds}
use Rattle.glacier_bodies.proofs.CallLemmas.{none_failed}
use Rattle.glacier_bodies.proofs.ReadLemmas.{IsAt, rests_on, length-put_mid, front_on, read_all, blob_runs}
use Rattle.glacier_bodies.proofs.blob_area.BlobArea.read.Goals as goal

pub loop-number-preserved : goal.loop-number-preserved
loop-number-preserved g c =
    let so_far = c.loop-number.invariant in
    let old = g.D.Disk.told c.args.disk.now in
    let mid = g.D.Disk.told c.loop-number.disk in
    let i = c.loop-number.number-index in
    let done = c.loop-number.done in
    let into = c.loop-number.into in
    let layout = c.in-Some.layout.now in
    let rest = runs_of c.args.self.now.blobs c.args.account.now (drop (i + 1) c.args.blobs.now) in
    let step = blob_runs c.args.self.now.blobs c.args.account.now c.args.blobs.now i layout c.loop-number-test.true c.in-Some.ensures in
    let skip = c.loop-number.skip in
    let n = c.in_ok-done.field-0 in
    let k = length into - done in
    let piece = c.read_front.new.into in
    let less : done < length into = omega (arith, so_far.within, c.if-done-into.false) in
    let lent : length (take k (drop done into)) ≡ k = omega (arith, length-take k (drop done into), length-drop done into) in
    let part : length piece ≡ k = omega (arith, c.read_front.auto.into, lent) in
    let whole = length-put_mid done k into piece part (omega (arith, less)) in
    let room = block_count layout * block_size in
    let small : n ≡ min k (room - skip) = c.in_ok-done.ensures.count ∙ ap (λ m. min m (room - skip)) lent in
    let left : c.saturating_sub-skip.result ≡ skip - room = omega (arith, c.saturating_sub-skip.ensures, c.count.ensures.count) in
    record {
      within = omega (arith, whole, small, less);
      opened = c.in_ok-done.ensures.call.opened;
      alone = g.met.D.Disk.by_disk_joins c.args.disk.now c.loop-number.disk c.read_front.new.disk so_far.alone c.read_front.ensures.alone;
      faults = c.in_ok-done.ensures.call.cause.ok ∙ so_far.faults;
      rests = rests_on old mid (g.D.Disk.told c.read_front.new.disk) so_far.rests c.read_front.ensures.rests;
      bytes = λ t bytes held within. (
          let same : mid.reads Blobs ≡ old.reads Blobs = ap (λ (image : Image). image Blobs) so_far.rests.same in
          let long : c.args.at + length into ≤ length bytes = omega (arith, whole, within) in
          let is = subst (λ (rs : List Run). IsAt c.args.at skip done into rs bytes (old.reads Blobs)) step (so_far.bytes t bytes held long) in
          let read = subst (λ (content : List ℕ). (bs : List ℕ) → Holds layout bs content → skip + n ≤ length bs → take n piece ≡ take n (drop skip bs)) same (c.in_ok-done.ensures.bytes t) in
          subst (λ s. IsAt c.args.at s (done + n) (put_mid done k into piece) rest bytes (old.reads Blobs)) (sym left)
          (front_on c.args.at skip done n k into piece (put_mid done k into piece) layout rest bytes (old.reads Blobs) is less small long read part whole refl));
    }

pub returns-after-loop-number-clause-call : goal.returns-after-loop-number-clause-call
returns-after-loop-number-clause-call g c = none_failed (g.D.Disk.told c.args.disk.now) (g.D.Disk.told c.loop-number.disk) c.loop-number.invariant.opened c.loop-number.invariant.faults

pub returns-then-done-into-clause-call : goal.returns-then-done-into-clause-call
returns-then-done-into-clause-call g c = none_failed (g.D.Disk.told c.args.disk.now) (g.D.Disk.told c.loop-number.disk) c.loop-number.invariant.opened c.loop-number.invariant.faults

pub returns-after-loop-number-clause-bytes : goal.returns-after-loop-number-clause-bytes
returns-after-loop-number-clause-bytes g c t bytes held within =
    let so_far = c.loop-number.invariant in
    let same = c.loop-number.auto.into in
    let long : c.args.at + length c.loop-number.into ≤ length bytes = omega (arith, same, within) in
    let is = so_far.bytes t bytes held long in
    read_all c.args.self.now.blobs c.args.account.now c.args.blobs.now c.args.at c.loop-number.skip c.loop-number.done c.loop-number.into bytes
    ((g.D.Disk.told c.args.disk.now).reads Blobs) c.loop-number.number-index c.loop-number-test.false so_far.within long is
    ∙ ap (λ n. take n (drop c.args.at bytes)) same
