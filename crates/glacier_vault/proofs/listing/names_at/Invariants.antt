use Rattle.std.proofs.Common.{◌≡◌, ◌++◌, ◌≤◌, Some, length}
use Rattle.std.specs.Prelude.{map as each}
use Rattle.glacier_vault.specs.Lists.{names_from}
use Rattle.glacier_vault.proofs.listing.names_at.Given as goal

abbrev pub invariant-loop-name : goal.invariant-loop-name
invariant-loop-name l = (l.names ++ each (λ e. e.0) l.name-iterator ≡ names_from (Some l.from) l.state) × (length l.names ≤ l.limit)
