use Rattle.std.proofs.Common.{sym, subst}
use Rattle.glacier_upload.specs.Completion.{IsWhole}
use Rattle.glacier_upload.proofs.CompletionRow.{fits_completion}
use Rattle.glacier_upload.proofs.completion.complete.Goals as goal

pub finish_upload-requires-clause-fits : goal.finish_upload-requires-clause-fits
finish_upload-requires-clause-fits c =
    let accepted = rw c.in-Ok.is at c.in_ok-archive.ensures in
    subst (IsWhole c.args.state.now c.args.m c.args.vault.now c.args.upload) (sym accepted.0)
    (fits_completion c.args.state.now c.in-Some-get.open.now c.args.size c.args.tree.now accepted.1 c.args.m c.args.vault.now c.args.upload
    c.in-Some.found.now c.requires.some (sym c.in-Some.ensures) (sym c.in-Some-get.ensures))
