use Rattle.glacier_replay.proofs.QuotaLemmas.{below_quotas}
use Rattle.glacier_replay.proofs.in_use.admitted_bodies_are_within_quotas.Goals as goal

pub returns : goal.returns
returns c = below_quotas
