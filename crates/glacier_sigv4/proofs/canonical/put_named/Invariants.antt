use Rattle.std.proofs.Common.{◌≡◌, ◌++◌, length}
use Rattle.std.specs.List.{slice_split}
use Rattle.glacier_base.specs.Cuts.{is_byte}
use Rattle.glacier_sigv4.specs.CanonicalFields.{field_texts}
use Rattle.glacier_sigv4.proofs.canonical.put_named.Given as goal

abbrev pub invariant-names : goal.invariant-names
invariant-names g l =
    let fields = g.F.FieldSource.pairs l.fields in
    l.fn.out ++ field_texts fields (slice_split (is_byte 59) l.names) ≡ l.out ++ field_texts fields (slice_split (is_byte 59) l.rest)

abbrev pub decreases-names : goal.decreases-names
decreases-names g l = length l.rest
