use Rattle.std.proofs.Common.{◌≡◌, ◌≤◌, ◌+◌}
use Rattle.std.specs.Prelude.{not, sum_by, filter, map as each}
use Rattle.std.specs.FinMap.{entries, contains_key}
use Rattle.glacier_vault.specs.Lengths.{archive_length}
use Rattle.glacier_job.proofs.settling.drop_unnamed.Given as goal

abbrev pub invariant-loop-number : goal.invariant-loop-number
invariant-loop-number l =
    let going = each (λ e. e.1) (filter (λ e. not (contains_key l.fn.named e.0)) l.number-iterator) in record {
      left : l.left + sum_by (archive_length l.fn.n) (each (λ e. e.1) (filter (λ e. not (contains_key l.fn.named e.0)) (entries l.fn.held))) ≡ l.fn.length + sum_by (archive_length l.fn.n) going;
      within : sum_by (archive_length l.fn.n) going ≤ l.left;
    }
