use Rattle.std.proofs.Common.{sym, subst, arith}
use Rattle.std.proofs.lemmas.Grind.{common_steps}
use Rattle.glacier_vault.specs.Lawful.{IsLawful}
use Rattle.glacier_vault.proofs.RowLemmas.{used-put, uploads-put, jobs-put, due-put, length-put, lawful-put}
use Rattle.glacier_vault.proofs.vault.put_vault.Goals as goal

pub returns-clause-ok : goal.returns-clause-ok
returns-clause-ok c =
    let used = used-put c.args.state.now c.args.m c.args.name.now c.requires.lawful c.requires.missing in
    let uploads = uploads-put c.args.state.now c.args.m c.args.name.now c.requires.lawful c.requires.missing in
    let jobs = jobs-put c.args.state.now c.args.m c.args.name.now c.requires.lawful c.requires.missing in
    let due = due-put c.args.state.now c.args.m c.args.name.now c.requires.lawful c.requires.missing in
    let length = length-put c.args.state.now c.args.m c.args.name.now c.requires.lawful c.requires.missing in
    grind (arith, common_steps)

pub returns-clause-lawful : goal.returns-clause-lawful
returns-clause-lawful c = subst IsLawful (sym (returns-clause-ok c)) (lawful-put c.args.state.now c.args.m c.args.name.now c.requires.lawful c.requires.missing c.requires.time)
