use Rattle.std.proofs.Common.{sym}
use Rattle.glacier_state_tests.proofs.upload_calls.upload.Goals as goal

pub commit_upload-requires-clause-admitted : goal.commit_upload-requires-clause-admitted
commit_upload-requires-clause-admitted c = (c.args.ground.now.rules.quota, sym c.in_default.ensures)
