use Rattle.std.proofs.Common.{None, List, [], ◌∙◌, ◌≡◌, rules, Err, Ok, ap, sym, subst}
use Rattle.std.specs.Prelude.{IfSome, Result}
use Rattle.glacier_machine.specs.declared.action.Answer.{Answer}
use Rattle.glacier_vault.specs.Accounts.{AccountEvent, Accounts}
use Rattle.glacier_store.specs.Outputs.{HasStretch}
use Rattle.glacier_store.specs.Steps.{Advances, Grows, accounts_after, action_events, room_of, store_left}
use Rattle.glacier_store.specs.declared.fault.StoreFault.{StoreFault}
use Rattle.glacier_store.specs.declared.fault.StoreFault.TheVariants.{Memory}
use Rattle.glacier_store.specs.declared.store.Store.{Store}
use Rattle.glacier_store.proofs.AdvanceLemmas.{change_advances, no_memory_advances}
use Rattle.glacier_store.proofs.ChangeLemmas.{after_change, change_fits, drawn_after}
use Rattle.glacier_store.proofs.StepLemmas.{plain_events}
use Rattle.glacier_store.proofs.store.Store.apply.Goals as goal

pub returns-in_err-answer-clause-advances : goal.returns-in_err-answer-clause-advances
returns-in_err-answer-clause-advances g c t =
    let is : ◌≡◌ {A = Result (Store × Answer) StoreFault} c.from_residual.result (Err Memory) = search rules in
    no_memory_advances (g.D.Disk.told c.args.disk.now) c.args.self (action_events c.args.rules.now c.args.m c.args.action.now [] c.args.self.accounts) (store_left c.from_residual.result)
    (ap (λ (r : Result (Store × Answer) StoreFault). store_left r) is) (g.met.D.Disk.lawful t c.args.disk.now)

pub invariant_of-store : goal.invariant_of-store
invariant_of-store g c =
    let change = c.in_ok-answer.answer.change in
    record { drawn = drawn_after None c.args.self.accounts c.acted.new.accounts c.args.rules.now.account c.args.m change.event change.freed c.args.self.area.blobs c.in_ok-answer.ensures.accounts c.args.self.drawn }

pub keep_change-requires-clause-fits : goal.keep_change-requires-clause-fits
keep_change-requires-clause-fits g c =
    let change = c.in_ok-answer.answer.change in
    change_fits c.args.self.accounts c.acted.new.accounts c.args.rules.now.account c.args.m change.event change.freed c.in_ok-answer.ensures.accounts

pub returns-in-Err-clause-advances : goal.returns-in-Err-clause-advances
returns-in-Err-clause-advances g c t =
    let old = g.D.Disk.told c.args.disk.now in
    let new = g.D.Disk.told c.keep_change.new.disk in
    let answer = c.in_ok-answer.answer in
    subst (λ (l : List AccountEvent). Advances old new c.args.self l (Err c.in-Err.fault))
    (plain_events c.args.rules.now c.args.m c.args.action.now c.args.self.accounts answer c.requires.plain c.in_ok-answer.ensures.answer)
    (change_advances old new c.args.self c.acted.new.accounts c.args.rules.now.account c.args.m answer.change (Err c.in-Err.fault) c.in_ok-answer.ensures.accounts
    (c.in-Err.ensures.keeps t) (c.in-Err.ensures.idle t))

pub returns-in-Err-clause-grows : goal.returns-in-Err-clause-grows
returns-in-Err-clause-grows g c =
    subst (λ (l : List AccountEvent). Grows c.args.self.journal (room_of l) (Err c.in-Err.fault))
    (plain_events c.args.rules.now c.args.m c.args.action.now c.args.self.accounts c.in_ok-answer.answer c.requires.plain c.in_ok-answer.ensures.answer) c.in-Err.ensures.grows

pub returns-in-Ok-clause-advances : goal.returns-in-Ok-clause-advances
returns-in-Ok-clause-advances g c t =
    let old = g.D.Disk.told c.args.disk.now in
    let new = g.D.Disk.told c.keep_change.new.disk in
    let answer = c.in_ok-answer.answer in
    subst (λ (l : List AccountEvent). Advances old new c.args.self l (Ok c.in-Ok.store))
    (plain_events c.args.rules.now c.args.m c.args.action.now c.args.self.accounts answer c.requires.plain c.in_ok-answer.ensures.answer)
    (change_advances old new c.args.self c.acted.new.accounts c.args.rules.now.account c.args.m answer.change (Ok c.in-Ok.store) c.in_ok-answer.ensures.accounts
    (c.in-Ok.ensures.keeps t) (c.in-Ok.ensures.idle t))

pub returns-in-Ok-clause-grows : goal.returns-in-Ok-clause-grows
returns-in-Ok-clause-grows g c =
    subst (λ (l : List AccountEvent). Grows c.args.self.journal (room_of l) (Ok c.in-Ok.store))
    (plain_events c.args.rules.now c.args.m c.args.action.now c.args.self.accounts c.in_ok-answer.answer c.requires.plain c.in_ok-answer.ensures.answer) c.in-Ok.ensures.grows

pub returns-in-Ok-clause-accounts : goal.returns-in-Ok-clause-accounts
returns-in-Ok-clause-accounts g c =
    let change = c.in_ok-answer.answer.change in
    c.in-Ok.ensures.accounts
    ∙ after_change None c.args.self.accounts c.acted.new.accounts c.args.rules.now.account c.args.m change.event change.freed [] c.in_ok-answer.ensures.accounts
    ∙ ap (accounts_after c.args.self.accounts)
    (plain_events c.args.rules.now c.args.m c.args.action.now c.args.self.accounts c.in_ok-answer.answer c.requires.plain c.in_ok-answer.ensures.answer)

pub returns-in-Ok-clause-output : goal.returns-in-Ok-clause-output
returns-in-Ok-clause-output g c =
    subst (λ (all : Accounts). IfSome c.in_ok-answer.answer.stretch (HasStretch all c.args.rules.now.account))
    (sym c.in-Ok.ensures.accounts) c.in_ok-answer.ensures.output
