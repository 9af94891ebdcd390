use Rattle.glacier_replay.proofs.LawfulEvents.{accounts_lawful}
use Rattle.glacier_replay.proofs.in_use.events_keep_accounts_lawful.Goals as goal

pub returns : goal.returns
returns c = accounts_lawful
