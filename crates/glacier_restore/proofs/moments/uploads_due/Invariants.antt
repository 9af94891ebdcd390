use Rattle.std.proofs.Common.{◌≡◌}
use Rattle.std.specs.FinMap as map
use Rattle.glacier_vault.specs.Due.{sooner, soonest, finished_due}
use Rattle.glacier_restore.proofs.moments.uploads_due.Given as goal

abbrev pub invariant-loop-upload : goal.invariant-loop-upload
invariant-loop-upload l = sooner l.soonest (soonest finished_due l.upload-iterator) ≡ soonest finished_due (map.values l.finished)
