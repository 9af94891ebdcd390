use Rattle.glacier_replay.proofs.PutLemmas.{put_lawful}
use Rattle.glacier_replay.proofs.accounts.Accounts.put.Goals as goal

pub invariant_of-self : goal.invariant_of-self
invariant_of-self c =
    put_lawful c.insert.result _ _ _ _ c.insert.ensures.ok c.insert.ensures.err c.self.invariant c.requires
