use Rattle.std.proofs.Common.{arith}
use Rattle.std.proofs.lemmas.Grind.{common_steps}
use Rattle.glacier_restore.proofs.MomentLemmas.{content_due-held}
use Rattle.glacier_restore.proofs.VaultLemmas.{bytes-insert}
use Rattle.glacier_restore.proofs.putting.insert_archive.Goals as goal

pub returns : goal.returns
returns c =
    let bytes = bytes-insert c.args.vault.now.archives c.args.number c.args.archive c.requires.missing in
    grind (arith, common_steps)

pub returns-then-held : goal.returns-then-held
returns-then-held c =
    let due = content_due-held c.args.vault.now c.args.number c.args.archive c.requires.first in
    grind (arith, common_steps)
