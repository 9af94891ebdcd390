use Rattle.std.proofs.Common.{◌≡◌, ◌+◌}
use Rattle.std.specs.Prelude.{drop, sum_by}
use Rattle.glacier_vault.specs.Lengths.{line_length}
use Rattle.glacier_job.proofs.lengths.with_lines.Given as goal

abbrev pub invariant-loop-line : goal.invariant-loop-line
invariant-loop-line l = l.more + sum_by (line_length l.n) (drop l.line-index l.lines) ≡ l.length + sum_by (line_length l.n) l.lines
