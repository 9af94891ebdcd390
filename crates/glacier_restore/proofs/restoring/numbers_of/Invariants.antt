use Rattle.std.proofs.Common.{◌≡◌, ◌++◌, drop}
use Rattle.glacier_restore.specs.Restoring.{numbers_of}
use Rattle.glacier_restore.proofs.restoring.numbers_of.Given as goal

abbrev pub invariant-loop-blob : goal.invariant-loop-blob
invariant-loop-blob l = l.numbers ++ numbers_of (drop l.blob-index l.blobs) ≡ numbers_of l.blobs
