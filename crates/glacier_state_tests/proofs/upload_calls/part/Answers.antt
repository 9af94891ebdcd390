use Rattle.std.proofs.Common.{sym}
use Rattle.glacier_state_tests.proofs.upload_calls.part.Goals as goal

pub commit_part-requires-clause-admitted : goal.commit_part-requires-clause-admitted
commit_part-requires-clause-admitted c = (c.args.ground.now.rules.quota, sym c.in_default.ensures)
