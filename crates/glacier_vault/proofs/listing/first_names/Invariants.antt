use Rattle.std.proofs.Common.{◌≡◌, ◌++◌, ◌≤◌, length}
use Rattle.std.specs.FinMap.{keys}
use Rattle.glacier_vault.proofs.listing.first_names.Given as goal

abbrev pub invariant-loop-name : goal.invariant-loop-name
invariant-loop-name l = (l.names ++ l.name-iterator ≡ keys l.state.vaults) × (length l.names ≤ l.limit)
