use Rattle.std.proofs.Common.{◌≡◌, ◌++◌, drop, flat_map}
use Rattle.std.specs.List.{AllByRecursion}
use Rattle.glacier_records.specs.Fields.{run_field}
use Rattle.glacier_records.specs.Room.{AreFull}
use Rattle.glacier_records.proofs.writing_lists.put_each_run.Given as goal

abbrev pub invariant-loop-run : goal.invariant-loop-run
invariant-loop-run l =
    (l.text ++ flat_map run_field.spell (drop l.run-index l.runs) ≡ l.initial.text ++ flat_map run_field.spell l.runs)
    × (AllByRecursion run_field.Fits (drop l.run-index l.runs) → AllByRecursion run_field.Fits l.runs)
    × AreFull (drop l.run-index l.runs)
