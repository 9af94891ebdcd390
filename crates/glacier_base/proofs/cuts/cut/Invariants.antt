use Rattle.std.proofs.Common.{◌≡◌, take, drop}
use Rattle.glacier_base.specs.Cuts.{cut_at}
use Rattle.glacier_base.proofs.CutLemmas.{behind}
use Rattle.glacier_base.proofs.cuts.cut.Given as goal

abbrev pub invariant-loop-i : goal.invariant-loop-i
invariant-loop-i l =
    cut_at l.separator l.bytes ≡ behind (take l.i l.bytes) (cut_at l.separator (drop l.i l.bytes))
