use Rattle.glacier_sigv4.proofs.PairLemmas.{sorted_pairs}
use Rattle.glacier_sigv4.proofs.canonical_query.sorted_pairs.Goals as goal

pub returns : goal.returns
returns c =
    sorted_pairs c.in_ok-pairs.pairs.items c.sort_unstable.new.self.items _ c.in_ok-pairs.ensures
    c.sort_unstable.ensures.permutation
    c.sort_unstable.ensures.sorted
