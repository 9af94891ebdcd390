use Rattle.glacier_sigv4.specs.KeyFile.{lines_of}
use Rattle.glacier_sigv4.proofs.GoodLemmas.{bad_line_from}
use Rattle.glacier_sigv4.proofs.auth_laws.bad_line_is_first.Goals as goal

pub returns : goal.returns
returns c text number = bad_line_from (lines_of text) number
