use Rattle.std.proofs.Common.{◌≡◌, ◌++◌, drop}
use Rattle.glacier_http.specs.Fields.{values_of}
use Rattle.glacier_sigv4.specs.CanonicalFields.{value_text}
use Rattle.glacier_sigv4.proofs.ValueLemmas.{more_values}
use Rattle.glacier_sigv4.proofs.canonical_fields.put_values.Given as goal

abbrev pub invariant-loop-i : goal.invariant-loop-i
invariant-loop-i g l =
    l.fn.out ++ value_text l.name (g.F.FieldSource.pairs l.fields)
    ≡ l.out ++ more_values l.comma (values_of l.name (drop l.i (g.F.FieldSource.pairs l.fields)))
