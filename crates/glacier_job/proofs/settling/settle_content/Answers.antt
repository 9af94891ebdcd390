use Rattle.std.proofs.Common.{arith}
use Rattle.std.proofs.lemmas.Grind.{common_steps}
use Rattle.glacier_job.proofs.SettledLengths.{jobs_stay, names_left, held_left, held_stay}
use Rattle.glacier_job.proofs.settling.settle_content.Goals as goal

pub returns-clause-vault : goal.returns-clause-vault
returns-clause-vault c =
    let named = names_left c.args.n c.args.m c.args.vault.now c.settle_jobs.new.jobs c.drop_ended-left.new.jobs c.in_ok-left.ensures.jobs c.drop_ended-left.ensures.jobs c.in_ok-vault.field-0 c.in_ok-vault.ensures in
    let held = held_left c.args.n c.args.m c.args.vault.now c.settle_jobs.new.jobs c.drop_ended-left.new.jobs c.in_ok-left.ensures.jobs c.drop_ended-left.ensures.jobs c.in_ok-vault.field-0 c.in_ok-vault.ensures in
    grind (arith, common_steps)

pub returns-clause-length : goal.returns-clause-length
returns-clause-length c = omega (
  arith,
  c.in_ok-left.ensures.length,
  c.drop_ended-left.ensures.length,
  c.drop_unnamed-left.ensures.length,
  c.drop_past-left.ensures.length,
  c.length_without_ended_lock-left.ensures,
  jobs_stay c.args.n c.args.m c.args.vault.now c.settle_jobs.new.jobs c.drop_ended-left.new.jobs c.in_ok-left.ensures.jobs,
  held_stay c.args.n c.args.m c.args.vault.now c.settle_jobs.new.jobs c.drop_ended-left.new.jobs c.in_ok-left.ensures.jobs c.drop_ended-left.ensures.jobs c.in_ok-vault.field-0 c.in_ok-vault.ensures,
)
