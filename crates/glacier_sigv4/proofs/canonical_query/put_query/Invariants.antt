use Rattle.std.proofs.Common.{◌≡◌, ◌++◌, map, drop}
use Rattle.glacier_sigv4.specs.CanonicalQuery.{canonical_query}
use Rattle.glacier_sigv4.specs.Encoded.{shown}
use Rattle.glacier_sigv4.proofs.PairLemmas.{more_pairs}
use Rattle.glacier_sigv4.proofs.canonical_query.put_query.Given as goal

abbrev pub invariant-loop-pair : goal.invariant-loop-pair
invariant-loop-pair l =
    l.fn.out ++ canonical_query l.query ≡ l.out ++ more_pairs l.more (map shown (drop l.pair-index l.pair-items))
