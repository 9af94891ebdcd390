-- Refusals that name what they refuse.
use Rattle.std.specs.Prelude.{ℕ, List}
use Rattle.glacier_requests.specs.declared.naming.Fault.{Fault}
use Rattle.glacier_requests.specs.declared.naming.Fault.TheVariants as fault
use Rattle.glacier_vault.specs.declared.refusal.Refusal.{Refusal}
use Rattle.glacier_vault.specs.declared.refusal.Refusal.TheVariants.{MissingHeader, BadHeader, MissingMember, BadMember, NotOffered, BadQuery}

abbrev pub refusal_named : Fault → List ℕ → Refusal
refusal_named fault.MissingHeader name = MissingHeader name
refusal_named fault.BadHeader name = BadHeader name
refusal_named fault.MissingMember name = MissingMember name
refusal_named fault.BadMember name = BadMember name
refusal_named fault.NotOffered name = NotOffered name
refusal_named fault.BadQuery name = BadQuery name
