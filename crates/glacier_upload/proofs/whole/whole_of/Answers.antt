use Rattle.std.proofs.Common.{sym, arith}
use Rattle.glacier_vault.proofs.PartSizeLemmas.{part_size-most}
use Rattle.glacier_upload.proofs.CoverLemmas.{leaves_covered}
use Rattle.glacier_upload.proofs.whole.whole_of.Goals as goal

pub leaves_gap-requires-clause-part_size : goal.leaves_gap-requires-clause-part_size
leaves_gap-requires-clause-part_size c = part_size-most c.args.upload.now.part_size c.requires.part_size

pub root-tree-requires : goal.root-tree-requires
root-tree-requires c = rw c.in_ok-leaves.ensures
    (omega (arith, leaves_covered c.args.last c.args.upload.now c.requires (sym c.if-leaves_gap.ensures), c.covered_bytes-size.ensures, c.if-size-lt1.false))
