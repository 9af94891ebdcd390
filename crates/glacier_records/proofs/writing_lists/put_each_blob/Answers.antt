use Rattle.std.proofs.Common.{◌++◌, ap, subst, ◌∙◌}
use Rattle.glacier_records.specs.Fields.{blob_field}
use Rattle.glacier_records.specs.Room.{BlobHasRoom}
use Rattle.glacier_records.specs.declared.kept.Blob.{Blob}
use Rattle.glacier_records.proofs.WrittenLemmas.{one_more, one_more_fits, still_left}
use Rattle.glacier_records.proofs.writing_lists.put_each_blob.Goals as goal

pub loop-blob-preserved : goal.loop-blob-preserved
loop-blob-preserved c =
    let xs = c.args.blobs.now in
    let i = c.loop-blob.blob-index in
    let blob = c.blob-item.result in
    let lt = c.loop-blob-test.true in
    let written = c.in_ok-put_blob.ensures.ok ∙ ap (λ (b : Blob). c.loop-blob.text ++ blob_field.spell b) c.blob-item.is in (
      one_more xs i blob lt blob_field.spell c.loop-blob.text c.put_blob.new.text _ written c.loop-blob.invariant.0,
      one_more_fits xs i blob lt blob_field.Fits (subst (λ (b : Blob). blob_field.Fits b) c.blob-item.is c.in_ok-put_blob.ensures.fits) c.loop-blob.invariant.1,
      still_left xs i blob lt BlobHasRoom c.loop-blob.invariant.2,
    )
