use Rattle.std.proofs.Common.{sym, length, arith}
use Rattle.std.proofs.lemmas.Grind.{common_steps}
use Rattle.glacier_restore.proofs.GrownLemmas.{right_vault}
use Rattle.glacier_restore.proofs.InsideLemmas.{lines_length-none}
use Rattle.glacier_restore.proofs.MomentLemmas.{due-job}
use Rattle.glacier_restore.proofs.PutLemmas.{new_job, job_grown}
use Rattle.glacier_restore.proofs.putting_jobs.put_job.Goals as goal

pub returns-clause-state : goal.returns-clause-state
returns-clause-state c =
    let grown = job_grown c.args.state.now c.requires.lawful c.args.name.now c.in-Some.vault.now (sym c.in-Some.ensures) c.args.number c.args.job (sym c.if-not-takes_job.ensures) in
    let used = grown.used in
    let uploads = grown.uploads in
    let jobs = grown.jobs in
    let longer = grown.longer in
    let bare = lines_length-none (length c.args.name.now) c.args.job.stage c.requires.bare in
    let right = right_vault c.args.state.now c.requires.lawful c.args.name.now c.in-Some.vault.now (sym c.in-Some.ensures) in
    let due = due-job c.args.state.now c.requires.lawful c.args.name.now c.in-Some.vault.now (sym c.in-Some.ensures) right c.args.number c.args.job (new_job c.args.state.now c.args.number c.in-Some.vault.now c.args.job (sym c.if-not-takes_job.ensures)) in
    grind (arith, common_steps)

pub insert_job-requires-clause-kept : goal.insert_job-requires-clause-kept
insert_job-requires-clause-kept c =
    let right = right_vault c.args.state.now c.requires.lawful c.args.name.now c.in-Some-get_mut.vault.now (sym c.in-Some-get_mut.ensures.value) in
    (right.due, right.named)
