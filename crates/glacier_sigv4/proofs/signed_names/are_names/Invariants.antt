use Rattle.std.proofs.Common.{◌≡◌, length}
use Rattle.glacier_sigv4.specs.Authorization.{are_names, names_in, rises_from}
use Rattle.glacier_sigv4.proofs.signed_names.are_names.Given as goal

abbrev pub invariant-names : goal.invariant-names
invariant-names l = are_names l.text ≡ rises_from l.before (names_in l.rest)

abbrev pub decreases-names : goal.decreases-names
decreases-names l = length l.rest
