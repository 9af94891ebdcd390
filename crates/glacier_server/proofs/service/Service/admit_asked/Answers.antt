use Rattle.std.proofs.Common.{sym, subst}
use Rattle.std.specs.Prelude.{IfOk, Result}
use Rattle.glacier_machine.specs.Actions.{HasSize}
use Rattle.glacier_machine.specs.declared.action.Action.{Action}
use Rattle.glacier_vault.specs.declared.refusal.Refusal.{Refusal}
use Rattle.glacier_server.specs.Admissions.{IsAdmission}
use Rattle.glacier_server.specs.declared.admission.Admission.TheVariants.{Refused}
use Rattle.glacier_server.specs.Machine.{asked_outcome}
use Rattle.glacier_server.proofs.AdmissionLemmas.{admits_refusal}
use Rattle.glacier_server.proofs.service.Service.admit_asked.Goals as goal

pub returns-in_ok-reply-in-Err-clause-admits : goal.returns-in_ok-reply-in-Err-clause-admits
returns-in_ok-reply-in-Err-clause-admits g c n size =
    subst (λ (a : Result Action Refusal). IsAdmission (λ body. asked_outcome c.args.rules c.args.m a body c.args.store.now.accounts) n
    c.args.store.now (Refused c.in_ok-reply-in-Err.reply)) (sym c.in-Err.is)
    (admits_refusal c.args.rules c.args.m n c.args.store.now c.in-Err.refusal c.in_ok-reply-in-Err.reply c.in_ok-reply-in-Err.ensures.reply)

pub returns-in-Ok-clause-admits : goal.returns-in-Ok-clause-admits
returns-in-Ok-clause-admits g c n size =
    subst (λ (a : Result Action Refusal). IfOk c.admit_action.result (IsAdmission
    (λ body. asked_outcome c.args.rules c.args.m a body c.args.store.now.accounts) n c.args.store.now)) (sym c.in-Ok.is)
    (c.admit_action.ensures.admits n (subst (λ (a : Result Action Refusal). IfOk a (HasSize n)) c.in-Ok.is size))
