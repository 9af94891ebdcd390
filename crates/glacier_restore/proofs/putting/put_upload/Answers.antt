use Rattle.std.proofs.Common.{refl, sym, arith}
use Rattle.std.proofs.lemmas.Grind.{common_steps}
use Rattle.glacier_restore.specs.Putting.{with_upload}
use Rattle.glacier_restore.proofs.MomentLemmas.{due_same}
use Rattle.glacier_restore.proofs.PutLemmas.{upload_grown}
use Rattle.glacier_restore.proofs.putting.put_upload.Goals as goal

pub returns-clause-state : goal.returns-clause-state
returns-clause-state c =
    let grown = upload_grown c.args.state.now c.requires.lawful c.args.name.now c.in-Some.vault.now (sym c.in-Some.ensures) c.args.number c.args.upload c.requires.bare (sym c.if-not-takes_upload.ensures) in
    let used = grown.used in
    let uploads = grown.uploads in
    let jobs = grown.jobs in
    let longer = grown.longer in
    let due = due_same c.args.state.now c.requires.lawful c.args.name.now c.in-Some.vault.now (sym c.in-Some.ensures) (with_upload c.args.number c.args.upload) refl in
    grind (arith, common_steps)
