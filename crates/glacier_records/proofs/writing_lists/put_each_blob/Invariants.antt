use Rattle.std.proofs.Common.{◌≡◌, ◌++◌, drop, flat_map}
use Rattle.std.specs.List.{AllByRecursion}
use Rattle.glacier_records.specs.Fields.{blob_field}
use Rattle.glacier_records.specs.Room.{BlobHasRoom}
use Rattle.glacier_records.proofs.writing_lists.put_each_blob.Given as goal

abbrev pub invariant-loop-blob : goal.invariant-loop-blob
invariant-loop-blob l =
    (l.text ++ flat_map blob_field.spell (drop l.blob-index l.blobs) ≡ l.initial.text ++ flat_map blob_field.spell l.blobs)
    × (AllByRecursion blob_field.Fits (drop l.blob-index l.blobs) → AllByRecursion blob_field.Fits l.blobs)
    × AllByRecursion BlobHasRoom (drop l.blob-index l.blobs)
