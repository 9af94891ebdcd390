use Rattle.std.proofs.Common.{get_or, ◌+◌, ◌∙◌, ap, drop, sym, subst}
use Rattle.glacier_bodies.specs.Stands.{AreApart, Layouts}
use Rattle.glacier_replay.specs.Changes.{without_blobs}
use Rattle.glacier_replay.specs.Made.{IsRest}
use Rattle.glacier_replay.proofs.BlobMaps.{without_next}
use Rattle.glacier_replay.proofs.RestLemmas.{apart_without, rest_without}
use Rattle.glacier_store.proofs.OpenBodies.{named_apart}
use Rattle.glacier_store.proofs.committing.give_back.Goals as goal

pub loop-number-preserved : goal.loop-number-preserved
loop-number-preserved c =
    let so_far = c.loop-number.invariant in
    let area = c.loop-number.area in
    let account = c.args.account.now in
    let numbers = c.args.numbers.now in
    let i = c.loop-number.number-index in
    let number = get_or numbers i 0 in
    let gone = c.free_blob.ensures.blobs in
    record {
      blobs = ap (λ (m : Layouts). without_blobs m account (drop (i + 1) numbers)) gone ∙ without_next area.blobs account numbers i c.loop-number-test.true ∙ so_far.blobs;
      apart = λ apart. subst AreApart (sym gone) (apart_without area.blobs account number (so_far.apart apart));
      rest = λ apart before. subst (λ (m : Layouts). IsRest c.free_blob.new.self.free m) (sym gone)
          (rest_without area.free area.blobs (so_far.rest apart before) (so_far.apart apart) account number c.free_blob.new.self.free c.free_blob.ensures.released.blocks_are);
      others = λ runs opened. c.free_blob.ensures.released.others runs (so_far.others runs opened) (named_apart area runs (so_far.others runs opened) account number);
    }
