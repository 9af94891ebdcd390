use Rattle.std.proofs.Common.{◌≡◌, ◌∙◌, Err, ap, sym}
use Rattle.std.proofs.lemmas.Result.{IfOk-weaker}
use Rattle.glacier_upload.specs.Single.{upload_row}
use Rattle.glacier_vault.specs.Rows.{answer}
use Rattle.glacier_replies.specs.Replies.{uploaded}
use Rattle.glacier_machine.proofs.RowSteps.{step_refused}
use Rattle.glacier_machine.proofs.archive_steps.upload.Goals as goal

pub returns-in-Err-clause-answer : goal.returns-in-Err-clause-answer
returns-in-Err-clause-answer c =
    let is : answer (upload_row c.args.state.now c.args.m c.args.ask.now c.args.found) ≡ Err c.in-Err.refusal =
    sym c.in_ok-change.ensures.answer ∙ c.in-Err.is in
    let step = step_refused c.args.state.now (upload_row c.args.state.now c.args.m c.args.ask.now c.args.found)
    (uploaded c.args.rules.now c.args.ask.now.vault c.args.state.now.counter c.args.ask.now.tree) c.in-Err.refusal is in
    IfOk-weaker c.refused_answer.result _ _ (λ given as_refused. as_refused ∙ sym (ap (λ s. s.answer) step)) c.refused_answer.ensures
