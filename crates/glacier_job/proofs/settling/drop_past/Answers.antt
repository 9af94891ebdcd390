use Rattle.std.proofs.Common.{arith}
use Rattle.glacier_job.proofs.SettledLengths.{length-past}
use Rattle.glacier_job.proofs.settling.drop_past.Goals as goal

pub length_without_past-left-requires : goal.length_without_past-left-requires
length_without_past-left-requires c = omega (arith, c.requires, length-past c.args.n c.args.m c.args.finished.now)

pub returns-clause-length : goal.returns-clause-length
returns-clause-length c = omega (arith, c.length_without_past-left.ensures, length-past c.args.n c.args.m c.args.finished.now)
