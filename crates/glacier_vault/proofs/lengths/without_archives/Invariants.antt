use Rattle.std.proofs.Common.{◌≡◌, ◌+◌}
use Rattle.std.specs.Prelude.{sum_by}
use Rattle.std.specs.FinMap.{values}
use Rattle.glacier_vault.specs.Lengths.{archive_length}
use Rattle.glacier_vault.proofs.lengths.without_archives.Given as goal

abbrev pub invariant-loop-archive : goal.invariant-loop-archive
invariant-loop-archive l = l.left + sum_by (archive_length l.n) (values l.archives) ≡ l.fn.left + sum_by (archive_length l.n) l.archive-iterator
