use Rattle.glacier_vault.specs.Lawful.{IsLawful}
use Rattle.glacier_state_tests.proofs.job_list_tests.ranges_that_are_nodes_have_hashes.Given as goal

abbrev pub invariant-loop-row : goal.invariant-loop-row
invariant-loop-row g l = IsLawful l.state
