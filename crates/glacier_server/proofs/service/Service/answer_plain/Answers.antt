use Rattle.std.proofs.Common.{refl}
use Rattle.glacier_server.specs.Exchange.{standing}
use Rattle.glacier_server.specs.Placed.{placed_as}
use Rattle.glacier_server.proofs.BegunLemmas.{has_begun, interim_unsent, plain_passed}
use Rattle.glacier_server.proofs.service.Service.answer_plain.Goals as goal

pub returns-in-Ok-clause-exchange : goal.returns-in-Ok-clause-exchange
returns-in-Ok-clause-exchange g c t old state read =
    let config = c.args.self.now.config.now in
    let from = standing c.args.count c.args.buffers.now.unread (placed_as c.args.store state) in
    c.answer_begun.ensures.exchange t old state
    (has_begun config from c.args.spans.now c.requires.good from.placed (plain_passed config from c.requires.plain read)
    (c.in-Ok.ensures.sent t))

pub returns-in-Ok-clause-broken : goal.returns-in-Ok-clause-broken
returns-in-Ok-clause-broken g c t old state read =
    let config = c.args.self.now.config.now in
    let from = standing c.args.count c.args.buffers.now.unread (placed_as c.args.store state) in
    c.answer_begun.ensures.broken t old state
    (has_begun config from c.args.spans.now c.requires.good from.placed (plain_passed config from c.requires.plain read)
    (c.in-Ok.ensures.sent t))

pub returns-in-Err-clause-exchange : goal.returns-in-Err-clause-exchange
returns-in-Err-clause-exchange g c t old state read =
    let config = c.args.self.now.config.now in
    let from = standing c.args.count c.args.buffers.now.unread (placed_as c.args.store state) in (
      state,
      interim_unsent config from c.args.spans.now c.requires.good from.placed
          (plain_passed config from c.requires.plain read) (c.in-Err.ensures.failed t) _ refl,
    )
