use Rattle.std.proofs.Common.{None, ◌≤◌, ◌∙◌, ap, sym, subst, Bool, ◌||◌}
use Rattle.std.specs.Option.{is_some}
use Rattle.glacier_vault.specs.declared.state.AccountState.{AccountState}
use Rattle.glacier_store.proofs.ChangeLemmas.{changed_accounts}
use Rattle.glacier_store.proofs.StepLemmas.{aged_made}
use Rattle.glacier_store.proofs.changed.aged.Goals as goal

pub returns-clause-accounts : goal.returns-clause-accounts
returns-clause-accounts c =
    let change = c.in_ok-change.change in
    let before = c.take-state.result in
    changed_accounts None c.args.accounts.now c.args.account.now c.args.m before c.pass.new.state change c.is_known-keep.result c.take-state.new.self c.put_if.new.self
    c.take-state.ensures.rest c.take-state.ensures.state c.take-state.ensures.lawful
    (aged_made c.args.m before c.pass.new.state change
    (subst (λ (s : AccountState). s.last ≤ c.args.m) (sym c.take-state.ensures.state) c.requires)
    c.in_ok-change.ensures.change c.in_ok-change.ensures.state)
    (c.is_known-keep.ensures ∙ ap (λ (b : Bool). b || is_some change.event) c.contains-known.ensures)
    c.in_ok-put_if.ensures
