use Rattle.glacier_sigv4.proofs.EncodeLemmas.{encodes}
use Rattle.glacier_sigv4.proofs.canonical_query.escaped.Goals as goal

pub returns : goal.returns
returns c = rw (c.in_ok-append_to.ensures.ok, c.new-out.ensures.bytes, c.percent_encode.ensures.text) (encodes c.args.text.now)
