use Rattle.glacier_replay.proofs.FilledLemmas.{made_lawful}
use Rattle.glacier_replay.proofs.in_use.made_accounts_are_lawful.Goals as goal

pub returns : goal.returns
returns c = made_lawful
