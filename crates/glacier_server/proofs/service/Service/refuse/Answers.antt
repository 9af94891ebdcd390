use Rattle.std.proofs.Common.{refl}
use Rattle.glacier_server.proofs.RefuseLemmas.{refused_unmade, refused_sent, refused_unsent}
use Rattle.glacier_server.proofs.StepLemmas.{reads}
use Rattle.glacier_server.proofs.service.Service.refuse.Goals as goal

pub returns-in-Err-clause-broken : goal.returns-in-Err-clause-broken
returns-in-Err-clause-broken g c t from stands =
    refused_unmade c.args.self.now.config.now (λ placed. reads placed c.now-date.result c.now-date.ensures.call
    (c.now-date.ensures.reading t)) from c.args.count stands

pub returns-in-Ok-send_reply-clause-exchange : goal.returns-in-Ok-send_reply-clause-exchange
returns-in-Ok-send_reply-clause-exchange g c t from stands =
    refused_sent c.args.self.now.config.now (λ placed. reads placed c.now-date.result c.now-date.ensures.call
    (c.now-date.ensures.reading t)) from c.args.count stands
    c.in-Ok.reply c.in-Ok.ensures.reply c.bad_end.result c.bad_end.ensures.of_none
    (c.bad_end.ensures.end c.args.cause) (c.in-Ok-send_reply.ensures.sent t) _ refl

pub returns-clause-exchange : goal.returns-clause-exchange
returns-clause-exchange g c t from stands =
    refused_unsent c.args.self.now.config.now (λ placed. reads placed c.now-date.result c.now-date.ensures.call
    (c.now-date.ensures.reading t)) from c.args.count stands
    c.in-Ok.reply c.in-Ok.ensures.reply (c.in-Err-send_reply.ensures.failed t) _ refl
