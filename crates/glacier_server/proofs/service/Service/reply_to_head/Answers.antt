use Rattle.std.proofs.Common.{◌∙◌, ap, subst}
use Rattle.std.proofs.lemmas.Result.{IfOk-weaker}
use Rattle.std.specs.Prelude.{Result}
use Rattle.glacier_machine.specs.Outcomes.{Outcome, request_outcome}
use Rattle.glacier_machine.specs.declared.action.Request.{Request}
use Rattle.glacier_vault.specs.declared.refusal.Refusal.{Refusal}
use Rattle.glacier_server.specs.Events.{KeepsOutcome}
use Rattle.glacier_server.specs.Texts.{answered_of}
use Rattle.glacier_server.proofs.KeptLemmas.{no_memory}
use Rattle.glacier_server.proofs.ReplyLemmas.{is_read, plain_request, stores_by}
use Rattle.glacier_server.proofs.service.Service.reply_to_head.Goals as goal

pub reply_to_read-requires-clause-read : goal.reply_to_read-requires-clause-read
reply_to_read-requires-clause-read g c κs lives =
    is_read c.in-Ok.request c.in-Ok.ensures.ascii (stores_by c.in-Ok.request c.requires.plain c.in-Ok.ensures.bulk) c.in-Ok.ensures.order

pub returns-in-Ok-clause-answer : goal.returns-in-Ok-clause-answer
returns-in-Ok-clause-answer g c body size kept =
    let config = c.args.self.now.config.now in
    let accounts = c.args.store.accounts in
    let same = plain_request config accounts c.in-Ok.request body c.args.reading (stores_by c.in-Ok.request c.requires.plain c.in-Ok.ensures.bulk)
    ∙ ap (λ (q : Result Request Refusal). request_outcome config accounts q body c.args.reading)
    (c.in-Ok.ensures.request body size (λ _. kept)) in
    IfOk-weaker c.reply_to_read.result _ _ (λ r is. is ∙ ap answered_of same) c.reply_to_read.ensures.answer

pub returns-in-Err-clause-keeps : goal.returns-in-Err-clause-keeps
returns-in-Err-clause-keeps g c t body size kept = no_memory (g.met.D.Disk.lawful t c.args.disk.now) c.args.store _ _

pub returns-in-Ok-clause-keeps : goal.returns-in-Ok-clause-keeps
returns-in-Ok-clause-keeps g c t body size kept =
    let config = c.args.self.now.config.now in
    let accounts = c.args.store.accounts in
    let same = plain_request config accounts c.in-Ok.request body c.args.reading (stores_by c.in-Ok.request c.requires.plain c.in-Ok.ensures.bulk)
    ∙ ap (λ (q : Result Request Refusal). request_outcome config accounts q body c.args.reading)
    (c.in-Ok.ensures.request body size (λ _. kept)) in
    subst (λ (o : Outcome). KeepsOutcome (g.D.Disk.told c.args.disk.now) (g.D.Disk.told c.reply_to_read.new.disk)
    c.args.store o c.reply_to_read.result) same (c.reply_to_read.ensures.keeps t)
