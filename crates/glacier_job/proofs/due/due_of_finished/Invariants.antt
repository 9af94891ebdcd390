use Rattle.std.proofs.Common.{◌≡◌}
use Rattle.std.specs.FinMap as map
use Rattle.glacier_vault.specs.Due.{sooner, soonest, finished_due}
use Rattle.glacier_job.proofs.due.due_of_finished.Given as goal

abbrev pub invariant-loop-upload : goal.invariant-loop-upload
invariant-loop-upload l = sooner l.due (soonest finished_due l.upload-iterator) ≡ soonest finished_due (map.values l.finished)
