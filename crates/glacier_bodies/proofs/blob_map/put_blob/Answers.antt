use Rattle.std.proofs.Common.{sym, ◌∙◌, ap}
use Rattle.glacier_base.specs.Maps.{with_value}
use Rattle.glacier_bodies.proofs.NameLemmas.{with_value-same}
use Rattle.glacier_bodies.proofs.SoundLemmas.{on_err_weaker}
use Rattle.glacier_bodies.proofs.blob_map.put_blob.Goals as goal

pub returns-in-Some-clause-err : goal.returns-in-Some-clause-err
returns-in-Some-clause-err c = on_err_weaker c.insert.result
    (λ same. c.get_mut.follows.holds c.insert.new.self ∙ ap (with_value c.args.blobs.now c.args.account) same ∙ with_value-same c.args.blobs.now c.args.account c.in-Some.inner.now (sym c.in-Some.ensures.value))
    c.insert.ensures.err
