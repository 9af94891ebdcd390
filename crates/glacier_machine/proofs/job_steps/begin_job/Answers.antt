use Rattle.std.specs.Prelude.{IfErr}
use Rattle.std.proofs.Common.{◌≡◌, ◌∙◌, Ok, Err, ap, sym, subst}
use Rattle.std.proofs.lemmas.Result.{IfOk-weaker}
use Rattle.glacier_job.specs.Beginning.{begin_row}
use Rattle.glacier_vault.specs.Rows.{answer}
use Rattle.glacier_replies.specs.JobReplies.{begun}
use Rattle.glacier_replies.specs.Messages.{HasAsciiText}
use Rattle.glacier_machine.proofs.AsciiLemmas.{begun_ascii}
use Rattle.glacier_machine.proofs.RowSteps.{step_accepted, state_of_row, step_refused}
use Rattle.glacier_machine.proofs.job_steps.begin_job.Goals as goal

pub refused_answer-requires : goal.refused_answer-requires
refused_answer-requires c =
    let is : answer (begin_row c.args.rules.now c.args.state.now c.args.m c.args.ask.now) ≡ Err c.in-Err.refusal =
    sym c.in_ok-change.ensures.answer ∙ c.in-Err.is in
    subst (λ r. IfErr r HasAsciiText) is (begun_ascii c.args.rules.now c.args.state.now c.args.m c.args.ask.now)

pub returns-in-Ok-clause-answer : goal.returns-in-Ok-clause-answer
returns-in-Ok-clause-answer c =
    let is : answer (begin_row c.args.rules.now c.args.state.now c.args.m c.args.ask.now) ≡ Ok c.in-Ok.change =
    sym c.in_ok-change.ensures.answer ∙ c.in-Ok.is in
    c.changed.ensures
    ∙ step_accepted c.args.state.now (begin_row c.args.rules.now c.args.state.now c.args.m c.args.ask.now)
    (begun c.args.rules.now c.args.ask.now.vault c.args.state.now.counter) c.in_ok-reply.reply c.in-Ok.change c.in_ok-reply.ensures is

pub returns-in-Ok-clause-state : goal.returns-in-Ok-clause-state
returns-in-Ok-clause-state c =
    c.in_ok-change.ensures.state
    ∙ state_of_row c.args.state.now (begin_row c.args.rules.now c.args.state.now c.args.m c.args.ask.now)
    (begun c.args.rules.now c.args.ask.now.vault c.args.state.now.counter)

pub returns-in-Err-clause-answer : goal.returns-in-Err-clause-answer
returns-in-Err-clause-answer c =
    let is : answer (begin_row c.args.rules.now c.args.state.now c.args.m c.args.ask.now) ≡ Err c.in-Err.refusal =
    sym c.in_ok-change.ensures.answer ∙ c.in-Err.is in
    let step = step_refused c.args.state.now (begin_row c.args.rules.now c.args.state.now c.args.m c.args.ask.now)
    (begun c.args.rules.now c.args.ask.now.vault c.args.state.now.counter) c.in-Err.refusal is in
    IfOk-weaker c.refused_answer.result _ _ (λ given as_refused. as_refused ∙ sym (ap (λ s. s.answer) step)) c.refused_answer.ensures
