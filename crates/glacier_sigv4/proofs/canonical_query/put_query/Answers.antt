use Rattle.std.proofs.Common.{◌≡◌, ◌++◌, false, map, ap, sym, ◌∙◌}
use Rattle.glacier_sigv4.specs.Encoded.{shown}
use Rattle.glacier_sigv4.specs.CanonicalQuery.{canonical_pairs}
use Rattle.glacier_sigv4.proofs.PairLemmas.{join_pairs, more_pairs}
use Rattle.glacier_sigv4.proofs.canonical_query.put_query.Goals as goal

pub loop-pair-init : goal.loop-pair-init
loop-pair-init c =
    let items : canonical_pairs c.args.query.now ≡ map shown c.deref-pair-items.result.now =
    sym (ap (map shown) c.deref-pair-items.ensures.value ∙ c.in_ok-pairs.ensures) in
    ap (λ l. c.args.out.now ++ l) (join_pairs (canonical_pairs c.args.query.now) ∙ ap (more_pairs false) items)
