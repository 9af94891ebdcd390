use Rattle.std.proofs.Common.{arith, rules, Err, Ok, ℕ, ◌≡◌, ◌≤◌, List, [], refl, sym, ap, subst, ◌∙◌}
use Rattle.std.proofs.lemmas.Result.{IfOk-weaker}
use Rattle.glacier_machine.specs.Moments.{moment_change}
use Rattle.glacier_machine.specs.Outcomes.{Outcome, moment_of, rules_of}
use Rattle.glacier_store.specs.Steps.{time_events}
use Rattle.glacier_store.proofs.KeptLemmas.{kept_held}
use Rattle.glacier_vault.specs.Accounts.{Accounts, account_in, AccountEvent}
use Rattle.glacier_vault.specs.declared.rules.Rules.{Rules}
use Rattle.glacier_server.specs.declared.end.ServeFault.TheVariants.{Memory}
use Rattle.glacier_server.specs.Events.{KeepsEvents}
use Rattle.glacier_server.specs.Machine.{asked_outcome, told_of}
use Rattle.glacier_server.specs.declared.admission.Admission.{Admission}
use Rattle.glacier_server.proofs.AdmissionLemmas.{admission_behind, with_passed}
use Rattle.glacier_server.proofs.KeptLemmas.{no_events, no_memory}
use Rattle.glacier_server.proofs.PassedLemmas.{asked_behind, passed_account}
use Rattle.glacier_server.proofs.RoomLemmas.{events_of_plain, grew_room}
use Rattle.glacier_server.proofs.StoreCallLemmas.{changes_first, passed_then, pass_broken}
use Rattle.glacier_server.proofs.service.Service.admit_request.Goals as goal

pub admit_asked-requires-clause-time : goal.admit_asked-requires-clause-time
admit_asked-requires-clause-time g c κs lives =
    subst (λ (r : Rules). (account_in c.in-Ok.store.accounts r.account).last ≤ c.later-m.result) (sym c.rules-rules.ensures)
    c.in-Ok.ensures.passed.last

pub returns-in-Ok-admit_asked-clause-admits : goal.returns-in-Ok-admit_asked-clause-admits
returns-in-Ok-admit_asked-clause-admits g c n size =
    let config = c.args.self.now.config.now in
    let request = c.args.request.now in
    let account = request.account in
    let accounts = c.args.store.accounts in
    let m_is : c.later-m.result ≡ moment_of (account_in accounts account) c.args.reading = search rules in
    let time : (account_in accounts account).last ≤ c.later-m.result = omega (arith, m_is) in
    admission_behind
    (λ body. asked_outcome c.rules-rules.result c.later-m.result request.asked body c.in-Ok.store.accounts)
    (λ body. told_of (rules_of config account) accounts request body c.args.reading)
    n c.in-Ok.store c.in-Ok-admit_asked.admission
    (λ body same. sym (ap (with_passed (told_of (rules_of config account) accounts request [] c.args.reading).passed)
    (asked_behind config c.rules-rules.result request body c.args.reading c.later-m.result
    accounts c.in-Ok.store.accounts c.rules-rules.ensures m_is
    (ap (λ (a : Accounts). account_in a account) c.in-Ok.ensures.passed.after_is
    ∙ passed_account accounts account c.later-m.result time))))
    (c.in-Ok-admit_asked.ensures.admits n size)

pub returns-in-Ok-admit_asked-clause-keeps : goal.returns-in-Ok-admit_asked-clause-keeps
returns-in-Ok-admit_asked-clause-keeps g c t =
    let account = c.args.request.now.account in
    let accounts = c.args.store.accounts in
    let m_is : c.later-m.result ≡ moment_of (account_in accounts account) c.args.reading = search rules in
    let events = time_events account c.later-m.result accounts in
    let advances = c.in-Ok.ensures.advances t in
    let now = g.D.Disk.told c.pass.new.disk in
    subst (λ (n : ℕ). KeepsEvents {T = Admission} (g.D.Disk.told c.args.disk.now) now c.args.store (time_events account n accounts) []
    (Ok (c.in-Ok-admit_asked.admission, c.in-Ok.store))) m_is
    (passed_then c.args.store c.in-Ok.store events [] c.in-Ok.ensures.passed.after_is
    (λ state kept. changes_first state events (advances.any_moment state (kept_held kept)))
    advances.kept
    (grew_room c.args.store.journal.length c.in-Ok.store.journal.length events
    (events_of_plain account c.later-m.result (moment_change c.later-m.result (account_in accounts account)).event [] refl)
    c.in-Ok.ensures.grows.longer)
    (Ok (c.in-Ok-admit_asked.admission, c.in-Ok.store))
    (no_events (g.met.D.Disk.lawful t c.pass.new.disk) c.in-Ok.store c.in-Ok-admit_asked.admission))

pub returns-in-Err-clause-keeps : goal.returns-in-Err-clause-keeps
returns-in-Err-clause-keeps g c t =
    let account = c.args.request.now.account in
    let accounts = c.args.store.accounts in
    let m_is : c.later-m.result ≡ moment_of (account_in accounts account) c.args.reading = search rules in
    subst (λ (n : ℕ). KeepsEvents {T = Admission} (g.D.Disk.told c.args.disk.now) (g.D.Disk.told c.pass.new.disk) c.args.store
    (time_events account n accounts) [] (Err c.fault_of.result)) m_is
    (pass_broken c.args.store account c.later-m.result (moment_change c.later-m.result (account_in accounts account)).event [] refl []
    c.in-Err.fault c.fault_of.result c.fault_of.ensures (c.in-Err.ensures.advances t) c.in-Err.ensures.grows)

pub returns-in-Err-admit_asked-clause-keeps : goal.returns-in-Err-admit_asked-clause-keeps
returns-in-Err-admit_asked-clause-keeps g c t =
    let account = c.args.request.now.account in
    let accounts = c.args.store.accounts in
    let m_is : c.later-m.result ≡ moment_of (account_in accounts account) c.args.reading = search rules in
    let events = time_events account c.later-m.result accounts in
    let advances = c.in-Ok.ensures.advances t in
    let now = g.D.Disk.told c.pass.new.disk in
    subst (λ (n : ℕ). KeepsEvents {T = Admission} (g.D.Disk.told c.args.disk.now) now c.args.store (time_events account n accounts) []
    (Err Memory)) m_is
    (passed_then c.args.store c.in-Ok.store events [] c.in-Ok.ensures.passed.after_is
    (λ state kept. changes_first state events (advances.any_moment state (kept_held kept)))
    advances.kept
    (grew_room c.args.store.journal.length c.in-Ok.store.journal.length events
    (events_of_plain account c.later-m.result (moment_change c.later-m.result (account_in accounts account)).event [] refl)
    c.in-Ok.ensures.grows.longer)
    (Err Memory)
    (no_memory (g.met.D.Disk.lawful t c.pass.new.disk) c.in-Ok.store [] []))
