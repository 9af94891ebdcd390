use Rattle.std.proofs.Common.{[], sym, ap, subst}
use Rattle.glacier_http.specs.declared.reply.Reply.{Reply}
use Rattle.glacier_machine.specs.AccountSteps.{step_of}
use Rattle.glacier_machine.specs.Actions.{HasShortOutput}
use Rattle.glacier_machine.specs.declared.action.Answer.{Answer}
use Rattle.glacier_vault.specs.Accounts.{account_in}
use Rattle.glacier_server.specs.Machine.{IsPrintableIn}
use Rattle.glacier_server.proofs.AnsweredLemmas.{answered_is, is_whole}
use Rattle.glacier_server.proofs.ReplyLemmas.{step_printable}
use Rattle.glacier_server.proofs.StoreCallLemmas.{action_done, action_broken}
use Rattle.glacier_store.proofs.StepLemmas.{plain_stores_none}
use Rattle.glacier_server.proofs.service.Service.reply_to_action.Goals as goal

pub returns-in-Ok-clause-answer : goal.returns-in-Ok-clause-answer
returns-in-Ok-clause-answer g c =
    answered_is c.args.rules.now.account c.in-Ok.answer
    (step_of c.args.rules.now c.args.m c.args.action.now [] (account_in c.args.store.accounts c.args.rules.now.account)).answer
    c.output_of-output.result c.output_of-output.ensures c.in-Ok.ensures.answer

pub returns-in-Ok-clause-printable : goal.returns-in-Ok-clause-printable
returns-in-Ok-clause-printable g c =
    let is = ap (λ (a : Answer). a.reply) c.in-Ok.ensures.answer in
    subst (λ (r : Reply). IsPrintableIn 1024 r) (sym is)
    (step_printable c.args.rules.now c.args.m c.args.action.now (account_in c.args.store.accounts c.args.rules.now.account)
    c.names_are_short.ensures c.requires.plain (subst (HasShortOutput c.args.action.now) is c.in-Ok.ensures.short))

pub returns-in-Ok-clause-whole : goal.returns-in-Ok-clause-whole
returns-in-Ok-clause-whole g c =
    is_whole c.args.rules.now.account c.in-Ok.store.accounts c.in-Ok.answer.stretch c.output_of-output.result
    c.output_of-output.ensures c.in-Ok.ensures.output

pub returns-in-Ok-clause-keeps : goal.returns-in-Ok-clause-keeps
returns-in-Ok-clause-keeps g c t =
    let before = account_in c.args.store.accounts c.args.rules.now.account in
    action_done c.args.store c.args.rules.now.account c.args.m
    (step_of c.args.rules.now c.args.m c.args.action.now [] before).answer.change.event
    (step_of c.args.rules.now c.args.m c.args.action.now [] before).stored
    (plain_stores_none c.args.rules.now c.args.m c.args.action.now [] before c.requires.plain)
    c.in-Ok.store _ (c.in-Ok.ensures.advances t) c.in-Ok.ensures.accounts c.in-Ok.ensures.grows

pub returns-in-Err-clause-keeps : goal.returns-in-Err-clause-keeps
returns-in-Err-clause-keeps g c t =
    let before = account_in c.args.store.accounts c.args.rules.now.account in
    action_broken c.args.store c.args.rules.now.account c.args.m
    (step_of c.args.rules.now c.args.m c.args.action.now [] before).answer.change.event
    (step_of c.args.rules.now c.args.m c.args.action.now [] before).stored
    (plain_stores_none c.args.rules.now c.args.m c.args.action.now [] before c.requires.plain)
    c.in-Err.fault c.fault_of.result c.fault_of.ensures (c.in-Err.ensures.advances t) c.in-Err.ensures.grows
