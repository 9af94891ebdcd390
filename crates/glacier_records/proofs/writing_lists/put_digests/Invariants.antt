use Rattle.std.proofs.Common.{◌≡◌, ◌++◌, drop, flat_map}
use Rattle.std.specs.List.{AllByRecursion}
use Rattle.glacier_records.specs.Fields.{digest_field}
use Rattle.glacier_records.proofs.writing_lists.put_digests.Given as goal

abbrev pub invariant-loop-digest : goal.invariant-loop-digest
invariant-loop-digest l =
    (l.text ++ flat_map digest_field.spell (drop l.digest-index l.digests) ≡ l.initial.text ++ flat_map digest_field.spell l.digests)
    × (AllByRecursion digest_field.Fits (drop l.digest-index l.digests) → AllByRecursion digest_field.Fits l.digests)
