use Rattle.std.proofs.Common.{None, ◌≤◌, ◌∙◌, ap, sym, subst, Bool, ◌||◌}
use Rattle.std.specs.Option.{is_some}
use Rattle.glacier_machine.specs.declared.action.Answer.{Answer}
use Rattle.glacier_vault.specs.declared.state.AccountState.{AccountState}
use Rattle.glacier_store.proofs.ChangeLemmas.{changed_accounts}
use Rattle.glacier_store.proofs.StepLemmas.{acted_made}
use Rattle.glacier_store.proofs.StretchLemmas.{HasIdleStretch, step_stretch, stretch_after}
use Rattle.glacier_store.proofs.changed.acted.Goals as goal

pub returns-clause-accounts : goal.returns-clause-accounts
returns-clause-accounts c =
    let answer = c.in_ok-answer.answer in
    let before = c.take-state.result in
    changed_accounts None c.args.accounts.now c.args.rules.now.account c.args.m before c.step.new.state answer.change c.is_known-keep.result c.take-state.new.self c.put_if.new.self
    c.take-state.ensures.rest c.take-state.ensures.state c.take-state.ensures.lawful
    (acted_made c.args.rules.now c.args.m c.args.action.now before c.step.new.state answer
    (subst (λ (s : AccountState). s.last ≤ c.args.m) (sym c.take-state.ensures.state) c.requires.time) c.take-state.ensures.lawful c.requires.order c.requires.plain
    c.in_ok-answer.ensures.answer c.in_ok-answer.ensures.state)
    (c.is_known-keep.ensures ∙ ap (λ (b : Bool). b || is_some answer.change.event) c.contains-known.ensures)
    c.in_ok-put_if.ensures

pub returns-clause-output : goal.returns-clause-output
returns-clause-output c =
    let before = c.take-state.result in
    stretch_after c.args.accounts.now c.args.rules.now.account c.put_if.new.self c.args.m c.in_ok-answer.answer
    (subst (HasIdleStretch c.args.accounts.now c.args.rules.now.account) (sym c.in_ok-answer.ensures.answer)
    (step_stretch c.args.accounts.now c.args.rules.now.account c.args.rules.now c.args.m c.args.action.now before
    c.take-state.ensures.state c.take-state.ensures.lawful c.requires.order c.requires.plain))
    (returns-clause-accounts c)
