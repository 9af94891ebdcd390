use Rattle.std.proofs.Common.{Ok, [], sym, subst}
use Rattle.std.specs.Prelude.{IfOk, Result}
use Rattle.glacier_machine.specs.Actions.{HasSize}
use Rattle.glacier_store.specs.declared.store.Store.{Store}
use Rattle.glacier_server.specs.declared.admission.Admission.{Admission}
use Rattle.glacier_machine.specs.Outcomes.{request_outcome}
use Rattle.glacier_machine.specs.declared.action.Request.{Request}
use Rattle.glacier_vault.specs.declared.refusal.Refusal.{Refusal}
use Rattle.glacier_server.specs.Admissions.{IsAdmission}
use Rattle.glacier_server.specs.Events.{KeepsEvents}
use Rattle.glacier_server.specs.declared.admission.Admission.TheVariants.{Refused}
use Rattle.glacier_server.proofs.AdmissionLemmas.{admits_unread}
use Rattle.glacier_server.proofs.KeptLemmas.{no_events, no_memory}
use Rattle.glacier_server.proofs.service.Service.admit_read.Goals as goal

pub returns-in-Ok-reply_to_refused-clause-admits : goal.returns-in-Ok-reply_to_refused-clause-admits
returns-in-Ok-reply_to_refused-clause-admits g c n size =
    subst (λ (q : Result Request Refusal). IsAdmission
    (λ body. request_outcome c.args.self.now.config.now c.args.store.accounts q body c.args.reading) n
    c.args.store (Refused c.in-Ok-reply_to_refused.reply)) (sym c.in-Err.is)
    (admits_unread c.args.self.now.config.now c.args.store.accounts c.args.reading n c.args.store c.in-Err.refusal
    c.in-Ok-reply_to_refused.reply c.in-Ok-reply_to_refused.ensures.reply)

pub returns-in-Ok-reply_to_refused-clause-keeps : goal.returns-in-Ok-reply_to_refused-clause-keeps
returns-in-Ok-reply_to_refused-clause-keeps g c t =
    subst (λ (q : Result Request Refusal). KeepsEvents (g.D.Disk.told c.args.disk.now) (g.D.Disk.told c.args.disk.now) c.args.store
    (request_outcome c.args.self.now.config.now c.args.store.accounts q [] c.args.reading).passed []
    (Ok (Refused c.in-Ok-reply_to_refused.reply, c.args.store))) (sym c.in-Err.is)
    (no_events (g.met.D.Disk.lawful t c.args.disk.now) c.args.store (Refused c.in-Ok-reply_to_refused.reply))

pub returns-in-Err-reply_to_refused-clause-keeps : goal.returns-in-Err-reply_to_refused-clause-keeps
returns-in-Err-reply_to_refused-clause-keeps g c t = no_memory (g.met.D.Disk.lawful t c.args.disk.now) c.args.store _ _

pub returns-in-Ok-clause-admits : goal.returns-in-Ok-clause-admits
returns-in-Ok-clause-admits g c n size =
    subst (λ (q : Result Request Refusal). IfOk c.admit_request.result (λ (r : Admission × Store). IsAdmission
    (λ body. request_outcome c.args.self.now.config.now c.args.store.accounts q body c.args.reading) n r.1 r.0)) (sym c.in-Ok.is)
    (c.admit_request.ensures.admits n
    (subst (λ (q : Result Request Refusal). IfOk q (λ request. IfOk request.asked (HasSize n))) c.in-Ok.is size))
