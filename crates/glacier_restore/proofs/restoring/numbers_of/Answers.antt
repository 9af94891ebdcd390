use Rattle.std.proofs.Common.{◌∙◌, ◌++◌, ◌∷◌, [], ap}
use Rattle.glacier_records.specs.declared.kept.Blob.{Blob}
use Rattle.glacier_restore.proofs.RestoredLemmas.{numbers_more}
use Rattle.glacier_restore.proofs.restoring.numbers_of.Goals as goal

pub loop-blob-preserved : goal.loop-blob-preserved
loop-blob-preserved c =
    let pushed = c.in_ok-push.ensures.ok ∙ ap (λ (b : Blob). c.loop-blob.numbers ++ b.number ∷ []) c.blob-item.is in
    numbers_more c.args.blobs.now c.loop-blob.blob-index c.blob-item.result c.loop-blob-test.true c.loop-blob.numbers _ _ pushed c.loop-blob.invariant
