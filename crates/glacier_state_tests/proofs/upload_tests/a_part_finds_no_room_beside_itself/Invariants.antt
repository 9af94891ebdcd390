use Rattle.glacier_vault.specs.Lawful.{IsLawful}
use Rattle.glacier_state_tests.proofs.upload_tests.a_part_finds_no_room_beside_itself.Given as goal

abbrev pub invariant-loop-row : goal.invariant-loop-row
invariant-loop-row g l = IsLawful l.state
