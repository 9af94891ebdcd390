use Rattle.std.proofs.Common.{sym}
use Rattle.glacier_upload.proofs.PartRow.{fits_part}
use Rattle.glacier_upload.proofs.parts.commit_part.Goals as goal

pub put_part-requires-clause-fits : goal.put_part-requires-clause-fits
put_part-requires-clause-fits c = fits_part c.args.state.now c.args.ask.now c.args.found c.requires.some c.requires.admitted c.requires.leaves
    c.in-Some-get.vault.now (sym c.in-Some-get.ensures) c.in-Some-get-2.upload.now (sym c.in-Some-get-2.ensures) (sym c.in_default.ensures)
