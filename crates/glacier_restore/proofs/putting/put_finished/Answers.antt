use Rattle.std.proofs.Common.{sym, arith}
use Rattle.std.proofs.lemmas.Grind.{common_steps}
use Rattle.glacier_restore.proofs.GrownLemmas.{right_vault}
use Rattle.glacier_restore.proofs.MomentLemmas.{due-finished}
use Rattle.glacier_restore.proofs.PutLemmas.{new_finished, finished_grown}
use Rattle.glacier_restore.proofs.putting.put_finished.Goals as goal

pub returns-clause-state : goal.returns-clause-state
returns-clause-state c =
    let grown = finished_grown c.args.state.now c.requires.lawful c.args.name.now c.in-Some.vault.now (sym c.in-Some.ensures) c.args.number c.args.finished (sym c.if-not-takes_finished.ensures) in
    let used = grown.used in
    let uploads = grown.uploads in
    let jobs = grown.jobs in
    let longer = grown.longer in
    let right = right_vault c.args.state.now c.requires.lawful c.args.name.now c.in-Some.vault.now (sym c.in-Some.ensures) in
    let due = due-finished c.args.state.now c.requires.lawful c.args.name.now c.in-Some.vault.now (sym c.in-Some.ensures) right c.args.number c.args.finished (new_finished c.args.state.now c.args.number c.in-Some.vault.now c.args.finished (sym c.if-not-takes_finished.ensures)) in
    grind (arith, common_steps)
