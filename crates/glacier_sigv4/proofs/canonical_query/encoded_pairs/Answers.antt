use Rattle.std.proofs.Common.{◌≡◌, take, map, ap, ◌∙◌, arith}
use Rattle.std.proofs.lemmas.List.{take_all}
use Rattle.glacier_sigv4.specs.CanonicalQuery.{encoded_pair}
use Rattle.glacier_sigv4.proofs.canonical_query.encoded_pairs.Goals as goal

pub returns : goal.returns
returns c =
    let pairs = c.as_slice-pair-items.result.now in
    let all : take c.loop-pair.pair-index pairs ≡ pairs = take_all c.loop-pair.pair-index pairs (omega arith) in
    c.loop-pair.invariant ∙ ap (map encoded_pair) (all ∙ c.as_slice-pair-items.ensures ∙ c.in_ok-pairs.ensures)
