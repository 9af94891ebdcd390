use Rattle.std.proofs.Common.{◌≡◌, ◌++◌, length}
use Rattle.glacier_sigv4.specs.CanonicalFields.{canonical_value, squeezed}
use Rattle.glacier_sigv4.proofs.canonical_fields.put_value.Given as goal

abbrev pub invariant-text : goal.invariant-text
invariant-text l = l.fn.out ++ canonical_value l.value ≡ l.out ++ squeezed l.spaced l.text

abbrev pub decreases-text : goal.decreases-text
decreases-text l = length l.text
