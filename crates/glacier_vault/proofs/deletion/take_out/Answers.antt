use Rattle.std.proofs.Common.{sym, arith}
use Rattle.std.proofs.lemmas.Grind.{common_steps}
use Rattle.glacier_vault.proofs.WithoutArchive.{bytes-without}
use Rattle.glacier_vault.proofs.deletion.take_out.Goals as goal

pub overflow_sub-vault : goal.overflow_sub-vault
overflow_sub-vault c = omega (arith, c.requires.kept.0, bytes-without c.args.number c.args.vault.now c.in-Some.archive (sym c.in-Some.ensures.value))

pub returns-then-named-clause-vault : goal.returns-then-named-clause-vault
returns-then-named-clause-vault c =
    let bytes = bytes-without c.args.number c.args.vault.now c.in-Some.archive (sym c.in-Some.ensures.value) in
    grind (arith, common_steps)

pub returns-clause-vault : goal.returns-clause-vault
returns-clause-vault c =
    let bytes = bytes-without c.args.number c.args.vault.now c.in-Some.archive (sym c.in-Some.ensures.value) in
    grind (arith, common_steps)
