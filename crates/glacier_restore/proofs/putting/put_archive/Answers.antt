use Rattle.std.proofs.Common.{sym, arith}
use Rattle.std.proofs.lemmas.Grind.{common_steps}
use Rattle.glacier_restore.proofs.GrownLemmas.{right_vault}
use Rattle.glacier_restore.proofs.MomentLemmas.{archive_due}
use Rattle.glacier_restore.proofs.PutLemmas.{before_jobs, archive_grown}
use Rattle.glacier_restore.proofs.putting.put_archive.Goals as goal

pub returns-clause-state : goal.returns-clause-state
returns-clause-state c =
    let grown = archive_grown c.args.state.now c.requires.lawful c.args.name.now c.in-Some.vault.now (sym c.in-Some.ensures) c.args.number c.args.held c.args.archive c.requires.body (sym c.if-not-takes_archive.ensures) in
    let used = grown.used in
    let uploads = grown.uploads in
    let jobs = grown.jobs in
    let longer = grown.longer in
    let right = right_vault c.args.state.now c.requires.lawful c.args.name.now c.in-Some.vault.now (sym c.in-Some.ensures) in
    let due = archive_due c.args.state.now c.requires.lawful c.args.name.now c.in-Some.vault.now (sym c.in-Some.ensures) right c.args.number c.args.held c.args.archive (before_jobs c.args.state.now c.args.number c.in-Some.vault.now c.args.archive (sym c.if-not-takes_archive.ensures)) in
    grind (arith, common_steps)
