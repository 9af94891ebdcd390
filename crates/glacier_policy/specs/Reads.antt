-- What a reader's answer says.
use Rattle.std.specs.Prelude.{◌≡◌, ◌≢◌, Result, Ok, Err}
use Rattle.glacier_policy.specs.declared.policy.PolicyFault.{PolicyFault}
use Rattle.glacier_policy.specs.declared.policy.PolicyFault.TheVariants.{Memory}

-- the answer is the one that is defined, unless memory was wanting
abbrev pub Reads : {A : Type 0} → Result A PolicyFault → Result A PolicyFault → Type 0
Reads defined (Ok value) = defined ≡ Ok value
Reads defined (Err fault) = fault ≢ Memory → defined ≡ Err fault
