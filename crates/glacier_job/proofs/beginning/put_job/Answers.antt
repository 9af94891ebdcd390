use Rattle.std.proofs.Common.{sym, subst, arith}
use Rattle.std.proofs.lemmas.Grind.{common_steps}
use Rattle.glacier_vault.specs.Lawful.{IsLawful}
use Rattle.glacier_job.proofs.BeginLemmas.{used-put, uploads-put, jobs-put, due-put, length-put, lawful-put}
use Rattle.glacier_job.proofs.beginning.put_job.Goals as goal

pub returns-clause-state : goal.returns-clause-state
returns-clause-state c =
    let used = used-put c.args.state.now c.args.m c.requires.time c.requires.lawful c.args.name.now c.in-Some.vault.now (sym c.in-Some.ensures.value) c.args.job in
    let uploads = uploads-put c.args.state.now c.args.m c.requires.time c.requires.lawful c.args.name.now c.in-Some.vault.now (sym c.in-Some.ensures.value) c.args.job in
    let jobs = jobs-put c.args.state.now c.args.m c.requires.time c.requires.lawful c.args.name.now c.in-Some.vault.now (sym c.in-Some.ensures.value) c.args.job in
    let due = due-put c.args.state.now c.args.m c.requires.time c.requires.lawful c.args.name.now c.in-Some.vault.now (sym c.in-Some.ensures.value) c.args.job c.requires.waits in
    let length = length-put c.args.state.now c.args.m c.requires.time c.requires.lawful c.args.name.now c.in-Some.vault.now (sym c.in-Some.ensures.value) c.args.job c.requires.waits c.in_ok-length.length c.in_ok-length.ensures in
    grind (arith, common_steps)

pub returns-clause-lawful : goal.returns-clause-lawful
returns-clause-lawful c = subst IsLawful (sym (returns-clause-state c)) (lawful-put c.args.state.now c.args.m c.requires.time c.requires.lawful c.args.name.now c.args.job c.requires.waits c.requires.fits)
