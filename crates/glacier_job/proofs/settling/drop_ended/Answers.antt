use Rattle.std.proofs.Common.{arith}
use Rattle.glacier_job.proofs.SettledLengths.{length-ended}
use Rattle.glacier_job.proofs.settling.drop_ended.Goals as goal

pub length_without_ended-left-requires : goal.length_without_ended-left-requires
length_without_ended-left-requires c = omega (arith, c.requires, length-ended c.args.n c.args.m c.args.jobs.now)

pub returns-clause-length : goal.returns-clause-length
returns-clause-length c = omega (arith, c.length_without_ended-left.ensures, length-ended c.args.n c.args.m c.args.jobs.now)
