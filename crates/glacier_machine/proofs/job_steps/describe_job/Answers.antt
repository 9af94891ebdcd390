use Rattle.std.specs.Prelude.{IfErr}
use Rattle.std.proofs.Common.{◌≡◌, ◌∙◌, Ok, Err, ap, sym, subst}
use Rattle.std.proofs.lemmas.Result.{IfOk-weaker}
use Rattle.glacier_job.specs.Finding.{found_job}
use Rattle.glacier_vault.specs.Rows.{result_copied}
use Rattle.glacier_replies.specs.JobReplies.{shown_job}
use Rattle.glacier_replies.specs.Messages.{HasAsciiText}
use Rattle.glacier_machine.proofs.AsciiLemmas.{found_ascii}
use Rattle.glacier_machine.proofs.RowSteps.{look_found, look_missing}
use Rattle.glacier_machine.proofs.job_steps.describe_job.Goals as goal

pub refused_answer-requires : goal.refused_answer-requires
refused_answer-requires c =
    let is : found_job c.args.state.now c.args.name.now c.args.job ≡ Err c.in-Err.refusal = sym c.find.ensures ∙ ap result_copied c.in-Err.is in
    subst (λ r. IfErr r HasAsciiText) is (found_ascii c.args.state.now c.args.name.now c.args.job)

pub returns-in_ok-reply-in-Ok : goal.returns-in_ok-reply-in-Ok
returns-in_ok-reply-in-Ok c =
    let is : found_job c.args.state.now c.args.name.now c.args.job ≡ Ok c.in-Ok.found.now = sym c.find.ensures ∙ ap result_copied c.in-Ok.is in
    c.unchanged.ensures
    ∙ look_found c.args.state.now (found_job c.args.state.now c.args.name.now c.args.job)
    (λ job. shown_job c.args.rules.now c.args.name.now c.args.job job c.args.bytes) c.in-Ok.found.now c.in_ok-reply-in-Ok.reply is c.in_ok-reply-in-Ok.ensures

pub returns-in-Err : goal.returns-in-Err
returns-in-Err c =
    let is : found_job c.args.state.now c.args.name.now c.args.job ≡ Err c.in-Err.refusal = sym c.find.ensures ∙ ap result_copied c.in-Err.is in
    IfOk-weaker c.refused_answer.result _ _
    (λ given as_refused. as_refused
    ∙ look_missing c.args.state.now (found_job c.args.state.now c.args.name.now c.args.job)
    (λ job. shown_job c.args.rules.now c.args.name.now c.args.job job c.args.bytes) c.in-Err.refusal is)
    c.refused_answer.ensures
