use Rattle.std.proofs.Common.{◌≡◌, ◌++◌, ◌≤◌}
use Rattle.std.specs.Prelude.{length, filter, map as each}
use Rattle.glacier_job.specs.Finding.{fits, jobs_from}
use Rattle.glacier_job.proofs.listing.list.Given as goal

abbrev pub invariant-loop-number : goal.invariant-loop-number
invariant-loop-number l = record {
  all : l.numbers ++ each (λ e. e.0) (filter (λ e. fits l.fn.completed l.fn.stage e.1) l.number-iterator) ≡ jobs_from l.fn.completed l.fn.stage l.fn.from l.fn.vault;
  room : length l.numbers ≤ l.fn.limit;
}
