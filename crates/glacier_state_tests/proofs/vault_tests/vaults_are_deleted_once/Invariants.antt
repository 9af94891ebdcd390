use Rattle.glacier_vault.specs.Lawful.{IsLawful}
use Rattle.glacier_state_tests.proofs.vault_tests.vaults_are_deleted_once.Given as goal

abbrev pub invariant-loop-row : goal.invariant-loop-row
invariant-loop-row g l = IsLawful l.state

abbrev pub invariant-loop-deletion : goal.invariant-loop-deletion
invariant-loop-deletion g l = IsLawful l.state
