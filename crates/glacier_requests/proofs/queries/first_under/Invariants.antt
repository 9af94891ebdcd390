use Rattle.std.proofs.Common.{◌≡◌, drop}
use Rattle.glacier_requests.specs.Queries.{first_under}
use Rattle.glacier_requests.proofs.queries.first_under.Given as goal

abbrev pub invariant-loop-i : goal.invariant-loop-i
invariant-loop-i l = first_under l.name l.pairs ≡ first_under l.name (drop l.i l.pairs)
