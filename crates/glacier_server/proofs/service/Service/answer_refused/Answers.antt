use Rattle.std.proofs.Common.{refl}
use Rattle.glacier_server.specs.Exchange.{standing}
use Rattle.glacier_server.specs.Placed.{placed_as}
use Rattle.glacier_server.proofs.DoneLemmas.{refused_done}
use Rattle.glacier_server.proofs.service.Service.answer_refused.Goals as goal

pub returns-in-Ok-clause-exchange : goal.returns-in-Ok-clause-exchange
returns-in-Ok-clause-exchange g c t old before state begun admits =
    let config = c.args.self.now.config.now in
    let from = standing c.args.count c.args.buffers.now.unread before in
    c.send_answer.ensures.exchange t old from state refl refl
    (refused_done (c.in-Ok.ensures.body t config old from (placed_as c.args.store state) c.args.reading refl begun)
    c.requires.bulk c.args.store c.args.reply admits c.only_reply-answered.result c.only_reply-answered.ensures)

pub returns-in-Ok-clause-broken : goal.returns-in-Ok-clause-broken
returns-in-Ok-clause-broken g c t old before state begun admits =
    let config = c.args.self.now.config.now in
    let from = standing c.args.count c.args.buffers.now.unread before in
    c.send_answer.ensures.broken t old from state refl refl
    (refused_done (c.in-Ok.ensures.body t config old from (placed_as c.args.store state) c.args.reading refl begun)
    c.requires.bulk c.args.store c.args.reply admits c.only_reply-answered.result c.only_reply-answered.ensures)

pub returns-in-Err-clause-exchange : goal.returns-in-Err-clause-exchange
returns-in-Err-clause-exchange g c t old before state begun admits =
    (state, c.in-Err.ensures.ended t c.args.self.now.config.now old _ _ _ c.args.reading refl refl begun)
