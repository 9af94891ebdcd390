use Rattle.std.proofs.Common.{◌≡◌, ◌∙◌, Err, ap, sym}
use Rattle.std.proofs.lemmas.Result.{IfOk-weaker}
use Rattle.glacier_vault.specs.Deletions.{delete_row}
use Rattle.glacier_vault.specs.Rows.{answer}
use Rattle.glacier_replies.specs.Replies.{deleted}
use Rattle.glacier_machine.proofs.RowSteps.{step_refused, state_refused, on_ok_of, on_err_of}
use Rattle.glacier_machine.proofs.steps.delete_vault.Goals as goal

pub returns-in-Err-clause-answer : goal.returns-in-Err-clause-answer
returns-in-Err-clause-answer c =
    let is : answer (delete_row c.args.state.now c.args.m c.args.name.now) ≡ Err c.in-Err.refusal = sym c.in_ok-change.ensures.answer ∙ c.in-Err.is in
    let step = step_refused c.args.state.now (delete_row c.args.state.now c.args.m c.args.name.now) deleted c.in-Err.refusal is in
    IfOk-weaker c.refused_answer.result _ _ (λ given as_refused. as_refused ∙ sym (ap (λ s. s.answer) step)) c.refused_answer.ensures

pub returns-in-Err-clause-state : goal.returns-in-Err-clause-state
returns-in-Err-clause-state c =
    let is : answer (delete_row c.args.state.now c.args.m c.args.name.now) ≡ Err c.in-Err.refusal = sym c.in_ok-change.ensures.answer ∙ c.in-Err.is in
    let step = step_refused c.args.state.now (delete_row c.args.state.now c.args.m c.args.name.now) deleted c.in-Err.refusal is in
    on_ok_of c.refused_answer.result (c.in_ok-change.ensures.state ∙ state_refused c.args.state.now (delete_row c.args.state.now c.args.m c.args.name.now) c.in-Err.refusal is ∙ sym (ap (λ s. s.state) step))

pub returns-in-Err-clause-err : goal.returns-in-Err-clause-err
returns-in-Err-clause-err c =
    let is : answer (delete_row c.args.state.now c.args.m c.args.name.now) ≡ Err c.in-Err.refusal = sym c.in_ok-change.ensures.answer ∙ c.in-Err.is in
    on_err_of c.refused_answer.result (c.in_ok-change.ensures.state ∙ state_refused c.args.state.now (delete_row c.args.state.now c.args.m c.args.name.now) c.in-Err.refusal is)
