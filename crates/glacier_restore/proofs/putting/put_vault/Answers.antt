use Rattle.std.proofs.Common.{◌≡◌, false, arith}
use Rattle.std.proofs.lemmas.Grind.{common_steps}
use Rattle.std.specs.FinMap as map
use Rattle.glacier_vault.proofs.RowLemmas.{used-put, uploads-put, jobs-put, due-put, length-put}
use Rattle.glacier_restore.proofs.VaultLemmas.{none_there}
use Rattle.glacier_restore.proofs.putting.put_vault.Goals as goal

pub returns-clause-state : goal.returns-clause-state
returns-clause-state c =
    let absent : map.contains_key c.args.state.now.vaults c.args.name.now ≡ false = grind (arith, common_steps) in
    let none = none_there (map.get c.args.state.now.vaults c.args.name.now) absent in
    let used = used-put c.args.state.now c.args.m c.args.name.now c.requires.lawful none in
    let uploads = uploads-put c.args.state.now c.args.m c.args.name.now c.requires.lawful none in
    let jobs = jobs-put c.args.state.now c.args.m c.args.name.now c.requires.lawful none in
    let due = due-put c.args.state.now c.args.m c.args.name.now c.requires.lawful none in
    let length = length-put c.args.state.now c.args.m c.args.name.now c.requires.lawful none in
    grind (arith, common_steps)
