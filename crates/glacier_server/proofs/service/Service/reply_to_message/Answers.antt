use Rattle.std.proofs.Common.{◌≡◌, ◌∙◌, sym, subst}
use Rattle.std.specs.Prelude.{IfOk}
use Rattle.glacier_http.specs.View.{HeadText, text_of}
use Rattle.glacier_server.specs.declared.answered.Answered.{Answered}
use Rattle.glacier_server.specs.Machine.{told_head}
use Rattle.glacier_server.specs.Texts.{answered_of}
use Rattle.glacier_server.proofs.ReplyLemmas.{head_outcome}
use Rattle.glacier_server.proofs.service.Service.reply_to_message.Goals as goal
use Rattle.glacier_store.specs.declared.store.Store.{Store}
use Rattle.glacier_machine.specs.Outcomes.{Outcome}
use Rattle.glacier_server.specs.Events.{KeepsOutcome}

pub returns-clause-answer : goal.returns-clause-answer
returns-clause-answer g c h behind body reads sized count kept =
    let is : c.view-head.result ≡ text_of h = c.view-head.ensures.head h behind (
      reads.0,
      c.bytes.ensures.same
          ∙ reads.1,
    ) in
    subst (λ (t : HeadText). IfOk c.reply_to_head.result (λ (r : Answered × Store). r.0 ≡
    answered_of (told_head c.args.self.now.config.now c.args.store.accounts t body c.args.reading))) is
    (c.reply_to_head.ensures.answer body (sym count) kept)

pub returns-clause-keeps : goal.returns-clause-keeps
returns-clause-keeps g c t h behind body reads sized count kept =
    let is : c.view-head.result ≡ text_of h = c.view-head.ensures.head h behind (
      reads.0,
      c.bytes.ensures.same
          ∙ reads.1,
    ) in
    subst (λ (l : Outcome). KeepsOutcome (g.D.Disk.told c.args.disk.now) (g.D.Disk.told c.reply_to_head.new.disk) c.args.store l c.reply_to_head.result)
    (head_outcome c.args.self.now.config.now c.args.store.accounts h body c.args.reading c.view-head.result is)
    (c.reply_to_head.ensures.keeps t body (sym count) kept)
