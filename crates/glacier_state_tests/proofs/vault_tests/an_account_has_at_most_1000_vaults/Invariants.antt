use Rattle.glacier_vault.specs.Lawful.{IsLawful}
use Rattle.glacier_state_tests.proofs.vault_tests.an_account_has_at_most_1000_vaults.Given as goal

abbrev pub invariant-loop-number : goal.invariant-loop-number
invariant-loop-number g l = IsLawful l.state

abbrev pub invariant-loop-place : goal.invariant-loop-place
invariant-loop-place g l = IsLawful l.state
