use Rattle.std.proofs.Common.{sym}
use Rattle.glacier_replay.proofs.FitLemmas.{fits_begun}
use Rattle.glacier_replay.proofs.uploads.begin_again.Goals as goal

pub put_upload-requires-clause-fits : goal.put_upload-requires-clause-fits
put_upload-requires-clause-fits c = rw c.new.ensures
    (fits_begun c.args.state.now c.args.m c.args.name.now c.args.part_size c.args.description.now (sym c.if-not-contains.ensures) (sym c.if-not-allows_part_size.ensures) (sym c.if-not-can_draw.ensures))
