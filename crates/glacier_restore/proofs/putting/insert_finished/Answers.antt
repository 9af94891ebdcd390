use Rattle.std.proofs.Common.{arith}
use Rattle.std.proofs.lemmas.Grind.{common_steps}
use Rattle.glacier_restore.proofs.MomentLemmas.{content_due-finished}
use Rattle.glacier_restore.proofs.putting.insert_finished.Goals as goal

pub returns : goal.returns
returns c =
    let due = content_due-finished c.args.vault.now c.args.number c.args.finished c.requires.missing c.requires.due in
    grind (arith, common_steps)
