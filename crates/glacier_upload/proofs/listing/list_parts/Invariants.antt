use Rattle.std.proofs.Common.{◌≡◌, ◌++◌, ◌≤◌, ◌<◌, length}
use Rattle.std.specs.List.{AllByRecursion}
use Rattle.std.specs.Prelude.{map as each}
use Rattle.glacier_upload.specs.PartLists.{indices_from}
use Rattle.glacier_upload.proofs.listing.list_parts.Given as goal

abbrev pub invariant-loop-index : goal.invariant-loop-index
invariant-loop-index l = record {
  so_far : l.indices ++ each (λ e. e.0) l.index-iterator ≡ indices_from l.fn.from l.upload;
  few : length l.indices ≤ l.limit;
  low : AllByRecursion (λ e. e.0 < 10000) l.index-iterator;
}
