use Rattle.std.proofs.Common.{◌∙◌, [], Ok, ap, subst, sym}
use Rattle.glacier_machine.specs.AccountSteps.{admission_refusal}
use Rattle.glacier_machine.specs.Actions.{HasSize}
use Rattle.glacier_machine.specs.declared.action.Action.{Action}
use Rattle.glacier_server.specs.Admissions.{AdmitsUpload}
use Rattle.glacier_server.specs.Machine.{asked_outcome}
use Rattle.glacier_server.specs.Uploads.{upload_of}
use Rattle.glacier_vault.specs.Accounts.{account_in}
use Rattle.glacier_server.proofs.AdmissionLemmas.{admits_refused, admits_upload, refused_ascii}
use Rattle.glacier_server.proofs.service.Service.admit_action.Goals as goal

pub reply_to_refused-requires : goal.reply_to_refused-requires
reply_to_refused-requires g c =
    refused_ascii c.args.rules (account_in c.args.store.now.accounts c.args.rules.account) c.args.action.now c.in-Some.refusal
    (sym c.in-Some.is ∙ c.admit.ensures)

pub returns-in-Some-clause-admits : goal.returns-in-Some-clause-admits
returns-in-Some-clause-admits g c n size =
    admits_refused c.args.rules c.args.m c.args.store.now n c.args.action.now c.in-Some.refusal c.in_ok-reply.reply
    (sym c.in-Some.is ∙ c.admit.ensures) c.in_ok-reply.ensures.reply

pub returns-clause-admits : goal.returns-clause-admits
returns-clause-admits g c n size =
    let before = account_in c.args.store.now.accounts c.args.rules.account in
    subst (λ (a : Action). AdmitsUpload (λ body. asked_outcome c.args.rules c.args.m (Ok a) body c.args.store.now.accounts) n
    (upload_of c.args.store.now c.args.rules c.args.m c.in-Upload.ask [] 0)) (sym c.in-Upload.is)
    (admits_upload c.args.rules c.args.m c.args.store.now n c.in-Upload.ask c.requires.time
    (sym c.in_default.is ∙ c.admit.ensures ∙ ap (λ (a : Action). admission_refusal c.args.rules before a) c.in-Upload.is)
    (subst (λ (a : Action). HasSize n a) c.in-Upload.is size))
