use Rattle.std.proofs.Common.{sym}
use Rattle.glacier_upload.proofs.OpenLemmas.{opened}
use Rattle.glacier_replay.proofs.FitLemmas.{fits_recorded}
use Rattle.glacier_replay.proofs.uploads.part_again.Goals as goal

pub put_part-requires-clause-fits : goal.put_part-requires-clause-fits
put_part-requires-clause-fits c = rw c.in_ok-of.ensures (rw c.as_slice.ensures (rw c.tree_of.ensures
    (fits_recorded c.args.state.now c.args.name.now c.args.upload c.in-Some-get.open.now
    (opened c.args.state.now c.args.name.now c.args.upload c.in-Some.vault.now c.in-Some-get.open.now (sym c.in-Some.ensures) (sym c.in-Some-get.ensures))
    c.args.index c.args.size c.args.leaves.now (sym c.if-not-takes_part.ensures))))
