use Rattle.std.proofs.Common.{sym}
use Rattle.glacier_state_tests.proofs.store_archive_tests.uploaded.Goals as goal

pub upload-requires-clause-admitted : goal.upload-requires-clause-admitted
upload-requires-clause-admitted c = (c.args.ground.now.rules.quota, sym c.in_default.ensures)
