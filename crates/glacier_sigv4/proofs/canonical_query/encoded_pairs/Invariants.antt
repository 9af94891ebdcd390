use Rattle.std.proofs.Common.{◌≡◌, map, take}
use Rattle.glacier_sigv4.specs.CanonicalQuery.{encoded_pair}
use Rattle.glacier_sigv4.specs.Encoded.{shown}
use Rattle.glacier_sigv4.proofs.canonical_query.encoded_pairs.Given as goal

abbrev pub invariant-loop-pair : goal.invariant-loop-pair
invariant-loop-pair l = map shown l.encoded.items ≡ map encoded_pair (take l.pair-index l.pair-items)
