use Rattle.std.proofs.Common.{refl, sym, arith}
use Rattle.std.proofs.lemmas.Grind.{common_steps}
use Rattle.glacier_restore.specs.Putting.{in_job}
use Rattle.glacier_restore.proofs.MomentLemmas.{due_same, named_in-line}
use Rattle.glacier_restore.proofs.PutLemmas.{line_grown}
use Rattle.glacier_restore.proofs.putting_jobs.put_line.Goals as goal

pub returns-clause-state : goal.returns-clause-state
returns-clause-state c =
    let grown = line_grown c.args.state.now c.requires.lawful c.args.name.now c.in-Some.vault.now (sym c.in-Some.ensures) c.args.job c.in-Some-get.done.now (sym c.in-Some-get.ensures) c.args.line (sym c.if-not-takes_line.ensures) in
    let used = grown.used in
    let uploads = grown.uploads in
    let jobs = grown.jobs in
    let longer = grown.longer in
    let due = due_same c.args.state.now c.requires.lawful c.args.name.now c.in-Some.vault.now (sym c.in-Some.ensures) (in_job c.args.job c.args.line) refl in
    let names = named_in-line c.in-Some.vault.now c.args.job c.in-Some-get.done.now (sym c.in-Some-get.ensures) c.args.line in
    grind (arith, common_steps)
