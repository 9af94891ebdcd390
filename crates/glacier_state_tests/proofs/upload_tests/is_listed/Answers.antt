use Rattle.std.proofs.Common.{sym, arith}
use Rattle.glacier_upload.proofs.PartLemmas.{right_upload}
use Rattle.glacier_state_tests.proofs.upload_tests.is_listed.Goals as goal

pub list_parts-requires : goal.list_parts-requires
list_parts-requires c = (
  c.args.state.now.last,
  right_upload c.args.state.now c.args.state.now.last (omega arith) c.requires c.args.ground.now.vault c.in-Some.vault.now (sym c.in-Some.ensures) 0 c.in-Some-get.upload.now (sym c.in-Some-get.ensures),
)
