use Rattle.std.proofs.Common.{None, [], ◌≡◌, ◌∙◌, rules, Err, false, sym, subst}
use Rattle.std.proofs.lemmas.Result.{IfOk-weaker}
use Rattle.std.specs.Prelude.{Result}
use Rattle.glacier_vault.specs.Accounts.{Accounts}
use Rattle.glacier_vault.specs.declared.event.Change.{Change}
use Rattle.glacier_store.specs.Steps.{Advances, HasPassed, change_events, time_events}
use Rattle.glacier_store.specs.declared.fault.StoreFault.{StoreFault}
use Rattle.glacier_store.specs.declared.fault.StoreFault.TheVariants.{Memory}
use Rattle.glacier_store.specs.declared.store.Store.{Store}
use Rattle.glacier_store.proofs.AdvanceLemmas.{change_advances, idle_advances, no_memory_advances}
use Rattle.glacier_store.proofs.ChangeLemmas.{change_fits, drawn_after}
use Rattle.glacier_store.proofs.StepLemmas.{has_passed, no_time}
use Rattle.glacier_store.proofs.store.Store.pass.Goals as goal

pub returns-then-not-is_due-clause-advances : goal.returns-then-not-is_due-clause-advances
returns-then-not-is_due-clause-advances g c t =
    let accounts = c.args.self.accounts in
    let none : c.is_due.result ≡ false = search rules in
    idle_advances (g.D.Disk.told c.args.disk.now) c.args.self (time_events c.args.account.now c.args.m accounts)
    (no_time c.args.account.now c.args.m accounts (sym c.is_due.ensures ∙ none)) (g.met.D.Disk.lawful t c.args.disk.now)

pub returns-in_err-change-clause-advances : goal.returns-in_err-change-clause-advances
returns-in_err-change-clause-advances g c t =
    let is : ◌≡◌ {A = Result Store StoreFault} c.from_residual.result (Err Memory) = search rules in
    no_memory_advances (g.D.Disk.told c.args.disk.now) c.args.self (time_events c.args.account.now c.args.m c.args.self.accounts) c.from_residual.result is (g.met.D.Disk.lawful t c.args.disk.now)

pub invariant_of-store : goal.invariant_of-store
invariant_of-store g c =
    let change = c.in_ok-change.change in
    record { drawn = drawn_after None c.args.self.accounts c.aged.new.accounts c.args.account.now c.args.m change.event change.freed c.args.self.area.blobs c.in_ok-change.ensures.accounts c.args.self.drawn }

pub keep_change-requires-clause-fits : goal.keep_change-requires-clause-fits
keep_change-requires-clause-fits g c =
    let change = c.in_ok-change.change in
    change_fits c.args.self.accounts c.aged.new.accounts c.args.account.now c.args.m change.event change.freed c.in_ok-change.ensures.accounts

pub returns-clause-passed : goal.returns-clause-passed
returns-clause-passed g c =
    IfOk-weaker c.keep_change.result _ _
    (λ (done : Store) same. subst (λ (all : Accounts). HasPassed c.args.self.accounts all c.args.account.now c.args.m) (sym same)
    (has_passed c.args.self.accounts c.aged.new.accounts c.args.account.now c.args.m c.in_ok-change.change c.in_ok-change.ensures.change c.in_ok-change.ensures.accounts c.requires.time))
    c.keep_change.ensures.accounts

pub returns-clause-advances : goal.returns-clause-advances
returns-clause-advances g c t =
    let old = g.D.Disk.told c.args.disk.now in
    let new = g.D.Disk.told c.keep_change.new.disk in
    let k = c.args.account.now in
    subst (λ (x : Change). Advances old new c.args.self (change_events k c.args.m x []) c.keep_change.result) c.in_ok-change.ensures.change
    (change_advances old new c.args.self c.aged.new.accounts k c.args.m c.in_ok-change.change c.keep_change.result c.in_ok-change.ensures.accounts
    (c.keep_change.ensures.keeps t) (c.keep_change.ensures.idle t))
