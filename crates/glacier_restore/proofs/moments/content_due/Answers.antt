use Rattle.std.proofs.Common.{◌∙◌, sym, arith}
use Rattle.std.proofs.lemmas.Grind.{common_steps}
use Rattle.glacier_restore.proofs.MomentLemmas.{loose_is, due-loose, due-none_loose}
use Rattle.glacier_restore.proofs.moments.content_due.Goals as goal

pub returns-then-some_is_loose : goal.returns-then-some_is_loose
returns-then-some_is_loose c = sym (due-loose c.args.vault.now (sym (loose_is c.args.vault.now c.requires) ∙ sym c.if-some_is_loose.ensures))

pub returns : goal.returns
returns c =
    let due = due-none_loose c.args.vault.now (sym (loose_is c.args.vault.now c.requires) ∙ sym c.if-some_is_loose.ensures) in
    grind (arith, common_steps)
