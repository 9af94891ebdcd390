use Rattle.glacier_machine.proofs.BulkLemmas.{bulk_request, bulk_passed}
use Rattle.glacier_machine.proofs.laws.bulk_messages_are_decided_at_their_heads.Goals as goal

pub returns : goal.returns
returns c = record { request = bulk_request; passed = bulk_passed }
