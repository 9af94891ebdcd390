use Rattle.std.proofs.Common.{sym}
use Rattle.glacier_upload.proofs.CompletionRow.{some_leaves}
use Rattle.glacier_upload.proofs.completion.accept.Goals as goal

pub root-root-requires : goal.root-root-requires
root-root-requires c = rw c.in_ok-leaves.ensures (some_leaves c.args.state.now.last c.args.upload.now c.args.size c.requires.upload c.requires.some (sym c.in_default.ensures))
