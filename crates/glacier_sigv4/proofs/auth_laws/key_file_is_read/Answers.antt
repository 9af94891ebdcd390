use Rattle.glacier_sigv4.specs.KeyFile.{lines_of}
use Rattle.glacier_sigv4.proofs.GoodLemmas.{key_file_from, read_from_key_file}
use Rattle.glacier_sigv4.proofs.auth_laws.key_file_is_read.Goals as goal

pub returns : goal.returns
returns c text entries =
    (key_file_from (lines_of text) entries, read_from_key_file (lines_of text) entries)
