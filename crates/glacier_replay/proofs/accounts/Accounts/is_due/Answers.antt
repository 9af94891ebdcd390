use Rattle.std.proofs.Common.{◌≡◌, false, Option, rules, sym, ap, subst, ◌∙◌}
use Rattle.std.specs.Prelude.{unwrap_or}
use Rattle.glacier_job.specs.Pass.{pass_is_event}
use Rattle.glacier_vault.specs.Account.{empty_account}
use Rattle.glacier_vault.specs.Accounts.{Accounts, account_in}
use Rattle.glacier_vault.specs.declared.state.AccountState.{AccountState}
use Rattle.glacier_replay.proofs.DueLemmas.{none_due}
use Rattle.glacier_replay.proofs.accounts.Accounts.is_due.Goals as goal

pub returns-in-None : goal.returns-in-None
returns-in-None c =
    let seen : ◌≡◌ {A = Accounts} c.self.inside.accounts c.args.self.now = search rules in
    subst (λ (all : Accounts). false ≡ pass_is_event c.args.m (account_in all c.args.account.now)) seen
    (sym (ap (λ (r : Option AccountState). pass_is_event c.args.m (unwrap_or r empty_account)) (sym c.in-None.ensures) ∙ none_due c.args.m))
