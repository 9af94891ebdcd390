use Rattle.std.proofs.Common.{◌∙◌, sym}
use Rattle.glacier_upload.proofs.OpenLemmas.{opened}
use Rattle.glacier_replay.proofs.FitLemmas.{fits_whole}
use Rattle.glacier_replay.proofs.uploads.complete_again.Goals as goal

pub finish_upload-requires-clause-fits : goal.finish_upload-requires-clause-fits
finish_upload-requires-clause-fits c =
    fits_whole c.args.state.now c.args.name.now c.args.upload c.in-Some-get.open.now
    (opened c.args.state.now c.args.name.now c.args.upload c.in-Some.vault.now c.in-Some-get.open.now (sym c.in-Some.ensures) (sym c.in-Some-get.ensures))
    c.args.m c.in-Some-2.archive (sym c.in-Some-2.is ∙ c.in_ok-archive.ensures) (sym c.if-not-can_draw.ensures)
