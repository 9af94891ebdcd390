use Rattle.std.proofs.Common.{arith, rules, Err, ℕ, ◌≡◌, ◌≤◌, List, [], refl, sym, ap, subst, ◌∙◌}
use Rattle.std.proofs.lemmas.Result.{IfOk-weaker}
use Rattle.glacier_machine.specs.Moments.{moment_change}
use Rattle.glacier_machine.specs.Outcomes.{Outcome, moment_of, rules_of}
use Rattle.glacier_store.specs.Steps.{time_events}
use Rattle.glacier_store.proofs.KeptLemmas.{kept_held}
use Rattle.glacier_vault.specs.Accounts.{Accounts, account_in, AccountEvent}
use Rattle.glacier_vault.specs.declared.rules.Rules.{Rules}
use Rattle.glacier_server.specs.declared.answered.Answered.{Answered}
use Rattle.glacier_server.specs.Events.{KeepsEvents}
use Rattle.glacier_server.specs.Machine.{told_of}
use Rattle.glacier_server.specs.Texts.{answered_of}
use Rattle.glacier_server.proofs.PassedLemmas.{asked_behind, passed_account}
use Rattle.glacier_server.proofs.RoomLemmas.{events_of_plain, grew_room}
use Rattle.glacier_server.proofs.StoreCallLemmas.{changes_first, passed_then, pass_broken}
use Rattle.glacier_server.proofs.service.Service.reply_to_request.Goals as goal

pub reply_to_asked-requires-clause-time : goal.reply_to_asked-requires-clause-time
reply_to_asked-requires-clause-time g c κs lives =
    subst (λ (r : Rules). (account_in c.in-Ok.store.accounts r.account).last ≤ c.later-m.result) (sym c.rules-rules.ensures)
    c.in-Ok.ensures.passed.last

pub returns-in-Ok-clause-answer : goal.returns-in-Ok-clause-answer
returns-in-Ok-clause-answer g c =
    let account = c.args.request.now.account in
    let m_is : c.later-m.result ≡ moment_of (account_in c.args.store.accounts account) c.args.reading = search rules in
    let time : (account_in c.args.store.accounts account).last ≤ c.later-m.result = omega (arith, m_is) in
    let same = asked_behind c.args.self.now.config.now c.rules-rules.result c.args.request.now [] c.args.reading c.later-m.result
    c.args.store.accounts c.in-Ok.store.accounts c.rules-rules.ensures m_is
    (ap (λ (a : Accounts). account_in a account) c.in-Ok.ensures.passed.after_is
    ∙ passed_account c.args.store.accounts account c.later-m.result time) in
    IfOk-weaker c.reply_to_asked.result _ _ (λ r is. is ∙ ap answered_of same)
    c.reply_to_asked.ensures.answer

pub returns-in-Ok-clause-keeps : goal.returns-in-Ok-clause-keeps
returns-in-Ok-clause-keeps g c t =
    let account = c.args.request.now.account in
    let accounts = c.args.store.accounts in
    let m_is : c.later-m.result ≡ moment_of (account_in accounts account) c.args.reading = search rules in
    let time : (account_in c.args.store.accounts account).last ≤ c.later-m.result = omega (arith, m_is) in
    let same = asked_behind c.args.self.now.config.now c.rules-rules.result c.args.request.now [] c.args.reading c.later-m.result
    accounts c.in-Ok.store.accounts c.rules-rules.ensures m_is
    (ap (λ (a : Accounts). account_in a account) c.in-Ok.ensures.passed.after_is
    ∙ passed_account accounts account c.later-m.result time) in
    let events = time_events account c.later-m.result accounts in
    let advances = c.in-Ok.ensures.advances t in
    let done = (told_of (rules_of c.args.self.now.config.now account) accounts c.args.request.now [] c.args.reading).done in
    subst (λ (n : ℕ). KeepsEvents (g.D.Disk.told c.args.disk.now) (g.D.Disk.told c.reply_to_asked.new.disk) c.args.store
    (time_events account n accounts) done c.reply_to_asked.result) m_is
    (passed_then c.args.store c.in-Ok.store events done c.in-Ok.ensures.passed.after_is
    (λ state kept. changes_first state events (advances.any_moment state (kept_held kept)))
    advances.kept
    (grew_room c.args.store.journal.length c.in-Ok.store.journal.length events
    (events_of_plain account c.later-m.result (moment_change c.later-m.result (account_in accounts account)).event [] refl)
    c.in-Ok.ensures.grows.longer)
    c.reply_to_asked.result
    (subst (λ (l : List AccountEvent). KeepsEvents (g.D.Disk.told c.pass.new.disk) (g.D.Disk.told c.reply_to_asked.new.disk)
    c.in-Ok.store [] l c.reply_to_asked.result) (ap (λ (o : Outcome). o.done) same) (c.reply_to_asked.ensures.keeps t)))

pub returns-in-Err-clause-keeps : goal.returns-in-Err-clause-keeps
returns-in-Err-clause-keeps g c t =
    let account = c.args.request.now.account in
    let accounts = c.args.store.accounts in
    let m_is : c.later-m.result ≡ moment_of (account_in accounts account) c.args.reading = search rules in
    let done = (told_of (rules_of c.args.self.now.config.now account) accounts c.args.request.now [] c.args.reading).done in
    subst (λ (n : ℕ). KeepsEvents {T = Answered} (g.D.Disk.told c.args.disk.now) (g.D.Disk.told c.pass.new.disk) c.args.store
    (time_events account n accounts) done (Err c.fault_of.result)) m_is
    (pass_broken c.args.store account c.later-m.result (moment_change c.later-m.result (account_in accounts account)).event [] refl done
    c.in-Err.fault c.fault_of.result c.fault_of.ensures (c.in-Err.ensures.advances t) c.in-Err.ensures.grows)
