use Rattle.std.proofs.Common.{sym}
use Rattle.glacier_upload.proofs.MultipartLemmas.{fits_begin}
use Rattle.glacier_upload.proofs.beginning.begin.Goals as goal

pub put_upload-requires-clause-fits : goal.put_upload-requires-clause-fits
put_upload-requires-clause-fits c = rw c.new.ensures (fits_begin c.args.state.now c.args.m c.args.vault.now c.args.part_size c.args.description.now (sym c.in_default.ensures))
