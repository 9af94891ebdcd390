use Rattle.std.proofs.Common.{◌≡◌, ◌+◌, ◌++◌}
use Rattle.std.specs.Prelude.{not, sum_by, filter, map as each}
use Rattle.glacier_vault.specs.Named.{is_named, blobs_of}
use Rattle.glacier_vault.specs.Totals.{blocks}
use Rattle.glacier_job.specs.Pass.{jobs_after, dropped, room_in}
use Rattle.glacier_job.proofs.releasing.release_held.Given as goal

abbrev pub invariant-loop-number : goal.invariant-loop-number
invariant-loop-number l =
    let left = each (λ e. e.1) (filter (λ e. not (is_named (jobs_after l.fn.m l.fn.vault) e.0)) l.number-iterator) in record {
      blobs : l.released.blobs ++ blobs_of left ≡ l.fn.released.blobs ++ blobs_of (dropped l.fn.m l.fn.vault);
      room : l.released.room + sum_by blocks.archive left ≡ l.fn.released.room + room_in l.fn.m l.fn.vault;
      jobs : l.released.jobs ≡ l.fn.released.jobs;
    }
