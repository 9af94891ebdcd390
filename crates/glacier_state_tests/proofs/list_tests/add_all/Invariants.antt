use Rattle.glacier_vault.specs.Lawful.{IsLawful}
use Rattle.glacier_state_tests.proofs.list_tests.add_all.Given as goal

abbrev pub invariant-loop-name : goal.invariant-loop-name
invariant-loop-name l = IsLawful l.state
