use Rattle.std.proofs.Common.{◌≡◌, Some, ap, refl, sym, subst, ◌∙◌}
use Rattle.std.specs.Prelude.{Option}
use Rattle.glacier_machine.specs.AccountSteps.{admission_refusal}
use Rattle.glacier_machine.specs.declared.action.Action.{Action}
use Rattle.glacier_vault.specs.Account.{empty_account}
use Rattle.glacier_store.proofs.AccountLemmas.{no_vault}
use Rattle.glacier_store.proofs.admitting.unknown.Goals as goal

pub returns-in-Upload : goal.returns-in-Upload
returns-in-Upload c =
    sym (ap (λ (a : Action). admission_refusal c.args.rules.now empty_account a) c.in-Upload.is
    ∙ no_vault c.args.rules.now.quota c.in-Upload.ask)
