use Rattle.std.proofs.Common.{arith}
use Rattle.glacier_vault.specs.Lengths.{lengths}
use Rattle.glacier_vault.proofs.DeletionLemmas.{bare_total}
use Rattle.glacier_vault.proofs.lengths.length_without_vault.Goals as goal

pub returns : goal.returns
returns c = omega (arith, bare_total c.args.vault.now (lengths c.args.n) c.requires.bare, c.requires.within, c.without_archives-left.ensures, c.without_finished-left.ensures, c.without_jobs-left.ensures, c.length_without_lock-left.ensures)
