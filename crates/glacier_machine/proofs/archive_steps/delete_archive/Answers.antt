use Rattle.std.proofs.Common.{◌≡◌, ◌∙◌, Err, ap, sym}
use Rattle.std.proofs.lemmas.Result.{IfOk-weaker}
use Rattle.glacier_lock.specs.Denied.{delete_archive_row}
use Rattle.glacier_vault.specs.Rows.{answer}
use Rattle.glacier_replies.specs.Replies.{deleted}
use Rattle.glacier_machine.proofs.RowSteps.{on_ok_of, state_of_row, step_refused}
use Rattle.glacier_machine.proofs.archive_steps.delete_archive.Goals as goal

pub returns-in-Err-clause-answer : goal.returns-in-Err-clause-answer
returns-in-Err-clause-answer c =
    let is : answer (delete_archive_row c.args.rules.now c.args.state.now c.args.m c.args.name.now c.args.archive) ≡ Err c.in-Err.refusal =
    sym c.in_ok-change.ensures.answer ∙ c.in-Err.is in
    let step = step_refused c.args.state.now (delete_archive_row c.args.rules.now c.args.state.now c.args.m c.args.name.now c.args.archive) deleted c.in-Err.refusal is in
    IfOk-weaker c.refused_answer.result _ _ (λ given as_refused. as_refused ∙ sym (ap (λ s. s.answer) step)) c.refused_answer.ensures

pub returns-in-Err-clause-state : goal.returns-in-Err-clause-state
returns-in-Err-clause-state c =
    on_ok_of c.refused_answer.result
    (c.in_ok-change.ensures.state
    ∙ state_of_row c.args.state.now (delete_archive_row c.args.rules.now c.args.state.now c.args.m c.args.name.now c.args.archive) deleted)
