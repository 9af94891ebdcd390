use Rattle.std.proofs.Common.{◌≡◌, drop}
use Rattle.glacier_sigv4.specs.Authorization.{names_in}
use Rattle.glacier_sigv4.specs.Coverage.{first_unsigned, least_of, unsigned_in}
use Rattle.glacier_sigv4.proofs.coverage.first_unsigned.Given as goal

abbrev pub invariant-loop-i : goal.invariant-loop-i
invariant-loop-i l =
    first_unsigned (names_in l.names) l.head.fields ≡ least_of l.first (unsigned_in (names_in l.names) (drop l.i l.head.fields))
