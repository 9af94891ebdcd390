-- Patterns and policies that are written out.
use Rattle.std.proofs.Common.{◌≡◌, true, false, [], ◌∷◌, refl, codes}
use Rattle.glacier_policy.specs.Denials.{holds_for, is_deletion, is_principal_of}
use Rattle.glacier_policy.specs.Patterns.{fits}
use Rattle.glacier_policy.specs.declared.policy.Operator.TheVariants.{NotEquals, LessThan}

-- a run crosses a slash, and may be empty
run_crosses : fits (codes "arn:*/v") (codes "arn:a:vaults/v") ≡ true
run_crosses = refl

run_of_nothing : fits (codes "a*") (codes "a") ≡ true
run_of_nothing = refl

-- one byte isn't none, and a sign is no byte of its own
one_byte : fits (codes "example?ault") (codes "examplevault") ≡ true
one_byte = refl

not_no_byte : fits (codes "a?") (codes "a") ≡ false
not_no_byte = refl

-- resources keep their case, actions don't
case_counts : fits (codes "Vault") (codes "vault") ≡ false
case_counts = refl

any_case : is_deletion (codes "GLACIER:delete*") ≡ true
any_case = refl

other_action : is_deletion (codes "glacier:DeleteVault") ≡ false
other_action = refl

the_root : is_principal_of (codes "111122223333") (codes "arn:aws:iam::111122223333:root") ≡ true
the_root = refl

another_account : is_principal_of (codes "111122223333") (codes "444455556666") ≡ false
another_account = refl

below_a_year : holds_for LessThan 364 (365 ∷ []) ≡ true
below_a_year = refl

a_year : holds_for LessThan 365 (365 ∷ []) ≡ false
a_year = refl

none_of_them : holds_for NotEquals 20 (10 ∷ 20 ∷ []) ≡ false
none_of_them = refl
