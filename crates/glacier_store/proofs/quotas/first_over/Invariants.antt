use Rattle.std.proofs.Common.{◌≡◌}
use Rattle.std.specs.FinMap as map
use Rattle.glacier_store.specs.Quotas.{first_over_in}
use Rattle.glacier_store.proofs.quotas.first_over.Given as goal

abbrev pub invariant-loop-account : goal.invariant-loop-account
invariant-loop-account l = first_over_in l.ring l.account-iterator ≡ first_over_in l.ring (map.entries l.accounts)
