use Rattle.std.proofs.Common.{sym, arith}
use Rattle.std.proofs.lemmas.Grind.{common_steps}
use Rattle.glacier_restore.proofs.MomentLemmas.{due-lock}
use Rattle.glacier_restore.proofs.PutLemmas.{no_lock, lock_grown}
use Rattle.glacier_restore.proofs.putting.put_lock.Goals as goal

pub returns-clause-state : goal.returns-clause-state
returns-clause-state c =
    let free = no_lock c.args.state.now c.in-Some.vault.now c.args.lock (sym c.if-not-takes_lock.ensures) in
    let grown = lock_grown c.args.state.now c.requires.lawful c.args.name.now c.in-Some.vault.now (sym c.in-Some.ensures) c.args.lock free in
    let used = grown.used in
    let uploads = grown.uploads in
    let jobs = grown.jobs in
    let longer = grown.longer in
    let due = due-lock c.args.state.now c.requires.lawful c.args.name.now c.in-Some.vault.now (sym c.in-Some.ensures) c.args.lock free in
    grind (arith, common_steps)
