use Rattle.std.proofs.Common.{sym, subst}
use Rattle.glacier_vault.specs.Accounts.{AllLawful}
use Rattle.glacier_replay.proofs.PutLemmas.{taken_lawful}
use Rattle.glacier_replay.proofs.accounts.Accounts.take.Goals as goal

pub invariant_of-self : goal.invariant_of-self
invariant_of-self c = subst AllLawful (sym c.remove.ensures.rest) (taken_lawful _ _ c.self.invariant)
