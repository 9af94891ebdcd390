use Rattle.std.proofs.Common.{sym, arith}
use Rattle.std.proofs.lemmas.Grind.{common_steps}
use Rattle.glacier_job.proofs.PassLemmas.{dropped-none}
use Rattle.glacier_job.proofs.releasing.release_held.Goals as goal

pub returns-then-is_empty-clause-blobs : goal.returns-then-is_empty-clause-blobs
returns-then-is_empty-clause-blobs c =
    let none = dropped-none c.args.m c.args.vault.now (sym c.if-is_empty.ensures) in
    grind (arith, common_steps)

pub returns-then-is_empty-clause-room : goal.returns-then-is_empty-clause-room
returns-then-is_empty-clause-room c =
    let none = dropped-none c.args.m c.args.vault.now (sym c.if-is_empty.ensures) in
    grind (arith, common_steps)
