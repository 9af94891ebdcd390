use Rattle.std.proofs.Common.{[]}
use Rattle.glacier_machine.proofs.RequestLemmas.{payload_unnamed, payload_named}
use Rattle.glacier_machine.proofs.signed_requests.signer.Goals as goal

pub returns-in-None : goal.returns-in-None
returns-in-None c =
    rw (payload_unnamed c.args.head.now c.args.body.now c.in-None.ensures)
    (rw (c.text.ensures.text, c.digest.ensures) at c.verify.ensures)

pub returns-in-One : goal.returns-in-One
returns-in-One c =
    rw (payload_named c.args.head.now c.args.body.now c.in-One.named.now [] c.in-One.ensures) c.verify-in-One.ensures

pub returns-in-Many : goal.returns-in-Many
returns-in-Many c =
    rw (payload_named c.args.head.now c.args.body.now c.in-Many.named.now _ c.in-Many.ensures.2)
    c.verify-in-Many.ensures
