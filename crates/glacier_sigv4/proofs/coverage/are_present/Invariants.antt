use Rattle.std.proofs.Common.{◌≡◌, length}
use Rattle.glacier_sigv4.specs.Authorization.{names_in}
use Rattle.glacier_sigv4.specs.Coverage.{are_present}
use Rattle.glacier_sigv4.proofs.coverage.are_present.Given as goal

abbrev pub invariant-names : goal.invariant-names
invariant-names l = are_present l.head.fields (names_in l.names) ≡ are_present l.head.fields (names_in l.rest)

abbrev pub decreases-names : goal.decreases-names
decreases-names l = length l.rest
