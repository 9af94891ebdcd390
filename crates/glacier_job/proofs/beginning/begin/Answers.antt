use Rattle.std.proofs.Common.{sym, subst, arith}
use Rattle.std.proofs.lemmas.Grind.{common_steps}
use Rattle.glacier_vault.specs.Lawful.{IsLawful}
use Rattle.glacier_vault.specs.declared.job.Stage.TheVariants.{Waiting}
use Rattle.glacier_job.specs.Beginning.{FitsIn}
use Rattle.glacier_job.proofs.BeginLemmas.{accepted, lawful-begin}
use Rattle.glacier_job.proofs.beginning.begin.Goals as goal

pub put_job-requires-clause-number : goal.put_job-requires-clause-number
put_job-requires-clause-number c = (accepted c.args.rules.now c.args.state.now c.args.m c.requires.time c.requires.lawful c.args.ask.now c.requires.order c.in-Ok.work (sym c.in-Ok.ensures)).1

pub put_job-requires-clause-fits : goal.put_job-requires-clause-fits
put_job-requires-clause-fits c =
    subst (λ ready. FitsIn c.args.state.now c.args.m c.args.ask.now.vault (record { created = c.args.m; ready = ready; tier = c.args.ask.now.tier; description = c.args.ask.now.description; work = c.in-Ok.work; stage = Waiting })) (sym c.ready_moment-ready.ensures)
    (accepted c.args.rules.now c.args.state.now c.args.m c.requires.time c.requires.lawful c.args.ask.now c.requires.order c.in-Ok.work (sym c.in-Ok.ensures)).0

pub returns-clause-state : goal.returns-clause-state
returns-clause-state c = grind (arith, common_steps)

pub returns-clause-lawful : goal.returns-clause-lawful
returns-clause-lawful c = subst IsLawful (sym (returns-clause-state c)) (lawful-begin c.args.rules.now c.args.state.now c.args.m c.requires.time c.requires.lawful c.args.ask.now c.requires.order)
