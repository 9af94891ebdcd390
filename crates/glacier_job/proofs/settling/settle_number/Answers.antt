use Rattle.std.proofs.Common.{ap, sym, arith}
use Rattle.glacier_vault.specs.Lengths.{job_length}
use Rattle.glacier_job.proofs.SettledLengths.{length-settled}
use Rattle.glacier_job.proofs.settling.settle_number.Goals as goal

pub returns-clause-length : goal.returns-clause-length
returns-clause-length c = omega (
  arith,
  c.in_ok-more.ensures.length,
  ap (job_length c.args.n) c.in_ok-more.ensures.job,
  length-settled c.args.n c.args.m c.args.archives.now c.args.jobs.now c.args.number c.in-Some.job.now (sym c.in-Some.ensures.value),
)
