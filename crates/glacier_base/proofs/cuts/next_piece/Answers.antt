use Rattle.std.proofs.Common.{sym}
use Rattle.glacier_base.proofs.CutLemmas.{split_uncut, split_cut}
use Rattle.glacier_base.proofs.cuts.next_piece.Goals as goal

pub returns-in-Some-clause-pieces : goal.returns-in-Some-clause-pieces
returns-in-Some-clause-pieces c =
    split_cut c.args.separator c.args.bytes.now _ (sym c.in-Some.ensures.parts)

pub returns-in-None-clause-pieces : goal.returns-in-None-clause-pieces
returns-in-None-clause-pieces c =
    split_uncut c.args.separator c.args.bytes.now (sym c.in-None.ensures.parts)
