use Rattle.glacier_lock.proofs.DeniedLemmas.{denied-refused}
use Rattle.glacier_lock.proofs.laws.denied_is_refused.Goals as goal

pub returns : goal.returns
returns c rules account m name number vault archive lock there live is denies = denied-refused rules account m name number vault archive lock there live is denies
