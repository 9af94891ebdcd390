use Rattle.std.proofs.Common.{sym}
use Rattle.glacier_restore.proofs.VaultLemmas.{right_body}
use Rattle.glacier_restore.proofs.restoring.archive_of.Goals as goal

pub returns-clause-body : goal.returns-clause-body
returns-clause-body c = rw c.in_ok-of.ensures (rw c.as_slice.ensures (rw c.tree_of.ensures (right_body c.args.size c.args.leaves.now (sym c.if-not-is_body.ensures))))
