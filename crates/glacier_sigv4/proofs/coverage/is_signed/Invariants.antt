use Rattle.std.proofs.Common.{◌≡◌, length}
use Rattle.glacier_sigv4.specs.Authorization.{names_in}
use Rattle.glacier_sigv4.specs.Coverage.{is_signed}
use Rattle.glacier_sigv4.proofs.coverage.is_signed.Given as goal

abbrev pub invariant-names : goal.invariant-names
invariant-names l = is_signed (names_in l.names) l.name ≡ is_signed (names_in l.rest) l.name

abbrev pub decreases-names : goal.decreases-names
decreases-names l = length l.rest
