use Rattle.glacier_sigv4.proofs.SpelledLemmas.{spelled_from, read_from_spelled}
use Rattle.glacier_sigv4.proofs.auth_laws.authorization_is_spelled.Goals as goal

pub returns : goal.returns
returns c text a = (spelled_from text a, read_from_spelled text a)
