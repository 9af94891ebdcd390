use Rattle.std.proofs.Common.{refl, sym, arith}
use Rattle.std.proofs.lemmas.Grind.{common_steps}
use Rattle.glacier_restore.specs.Putting.{in_upload}
use Rattle.glacier_restore.proofs.MomentLemmas.{due_same}
use Rattle.glacier_restore.proofs.PutLemmas.{part_grown}
use Rattle.glacier_restore.proofs.putting.put_part.Goals as goal

pub returns-clause-state : goal.returns-clause-state
returns-clause-state c =
    let grown = part_grown c.args.state.now c.requires.lawful c.args.name.now c.in-Some.vault.now (sym c.in-Some.ensures) c.args.upload c.in-Some-get.open.now (sym c.in-Some-get.ensures) c.args.index c.args.part (sym c.if-not-takes_part.ensures) in
    let used = grown.used in
    let uploads = grown.uploads in
    let jobs = grown.jobs in
    let longer = grown.longer in
    let due = due_same c.args.state.now c.requires.lawful c.args.name.now c.in-Some.vault.now (sym c.in-Some.ensures) (in_upload c.args.upload c.args.index c.args.part) refl in
    grind (arith, common_steps)
