use Rattle.std.proofs.Common.{◌≡◌, ◌<◌, rules, List, Some, Err, Ok, ◌∙◌, ap, sym, subst}
use Rattle.std.specs.Prelude.{IfSome, Result}
use Rattle.glacier_bodies.specs.Bodies.{body_runs}
use Rattle.glacier_bodies.specs.Blobs.{Holds}
use Rattle.glacier_disk.specs.declared.area.Area.TheVariants.{Blobs}
use Rattle.glacier_extents.specs.declared.run.Run.{Run}
use Rattle.glacier_machine.specs.declared.action.Answer.{Answer}
use Rattle.glacier_machine.specs.declared.action.Action.TheVariants.{Upload}
use Rattle.glacier_vault.specs.Accounts.{account_in}
use Rattle.glacier_store.specs.Endings.{OthersStay}
use Rattle.glacier_store.specs.Steps.{accounts_after, action_events, change_events, store_left}
use Rattle.glacier_store.specs.declared.fault.StoreFault.{StoreFault}
use Rattle.glacier_store.specs.declared.fault.StoreFault.TheVariants.{Memory}
use Rattle.glacier_store.specs.declared.store.Store.{Store}
use Rattle.glacier_store.proofs.ChangeLemmas.{after_change, drawn_after}
use Rattle.glacier_store.proofs.EndLemmas.{change_ends, ends_as, ends_drawn, grows_as, no_memory_ends, told_change}
use Rattle.glacier_store.proofs.UploadLemmas.{answer_is, events_are}
use Rattle.glacier_store.proofs.store.Store.end_body.Goals as goal

pub returns-in_err-answer-clause-ends : goal.returns-in_err-answer-clause-ends
returns-in_err-answer-clause-ends g c t message taken stored =
    let is : ◌≡◌ {A = Result (Store × Answer) StoreFault} c.from_residual.result (Err Memory) = search rules in
    no_memory_ends (g.D.Disk.told c.args.disk.now) c.args.self (body_runs c.args.body) (action_events c.args.rules.now c.args.m (Upload c.args.ask.now) message c.args.self.accounts)
    (store_left c.from_residual.result) (ap (λ (r : Result (Store × Answer) StoreFault). store_left r) is) (g.met.D.Disk.lawful t c.args.disk.now)

pub invariant_of-store : goal.invariant_of-store
invariant_of-store g c =
    let change = c.in_ok-answer.answer.change in
    record {
      drawn = drawn_after (Some (c.args.ask.now.size, c.finish-digests.result.0.leaves)) c.args.self.accounts c.uploaded.new.accounts c.args.rules.now.account c.args.m change.event change.freed
          c.args.self.area.blobs c.in_ok-answer.ensures.accounts c.args.self.drawn;
    }

pub keep_or_release-requires-clause-drawn : goal.keep_or_release-requires-clause-drawn
keep_or_release-requires-clause-drawn g c =
    let change = c.in_ok-answer.answer.change in
    let k = c.args.rules.now.account in
    subst (λ n. IfSome change.event (λ e. n < (account_in c.uploaded.new.accounts k).counter)) (sym c.in_ok-answer.ensures.number)
    (ends_drawn (c.args.ask.now.size, c.finish-digests.result.0.leaves) c.args.self.accounts c.uploaded.new.accounts k c.args.m change.event change.freed c.in_ok-answer.ensures.accounts)

pub returns-in-Ok-clause-ended : goal.returns-in-Ok-clause-ended
returns-in-Ok-clause-ended g c message taken =
    let k = c.args.rules.now.account in
    let ask = c.args.ask.now in
    let answer = c.in_ok-answer.answer in
    let found = c.finish-digests.ensures in
    record {
      answer = answer_is c.args.rules.now c.args.m ask _ message (account_in c.args.self.accounts k) answer c.requires.admitted (found.linear message taken) (found.leaves message taken) c.in_ok-answer.ensures.answer;
      accounts = c.in-Ok.ensures.stays.accounts
          ∙ after_change (Some (ask.size, c.finish-digests.result.0.leaves)) c.args.self.accounts c.uploaded.new.accounts k c.args.m answer.change.event answer.change.freed message c.in_ok-answer.ensures.accounts
          ∙ ap (accounts_after c.args.self.accounts)
          (events_are c.args.rules.now c.args.m ask _ message (account_in c.args.self.accounts k) answer c.requires.admitted (found.linear message taken) (found.leaves message taken) c.in_ok-answer.ensures.answer);
    }

pub returns-in-Ok-clause-others : goal.returns-in-Ok-clause-others
returns-in-Ok-clause-others g c =
    subst (λ (own : List Run). OthersStay own c.args.self.area c.in-Ok.store.area) c.finish-digests.ensures.runs c.in-Ok.ensures.stays.others

pub returns-in-Ok-clause-ends : goal.returns-in-Ok-clause-ends
returns-in-Ok-clause-ends g c t message taken stored =
    let old = g.D.Disk.told c.args.disk.now in
    let k = c.args.rules.now.account in
    let ask = c.args.ask.now in
    let answer = c.in_ok-answer.answer in
    let found = c.finish-digests.ensures in
    let runs = found.runs in
    ends_as old (g.D.Disk.told c.keep_or_release.new.disk) c.args.self c.finish-digests.result.1 (body_runs c.args.body)
    (change_events k c.args.m answer.change message) (action_events c.args.rules.now c.args.m (Upload ask) message c.args.self.accounts) (Ok c.in-Ok.store) runs
    (events_are c.args.rules.now c.args.m ask _ message (account_in c.args.self.accounts k) answer c.requires.admitted (found.linear message taken) (found.leaves message taken) c.in_ok-answer.ensures.answer)
    (change_ends old (g.D.Disk.told c.keep_or_release.new.disk) c.args.self c.uploaded.new.accounts k c.args.m answer.change c.finish-digests.result.1 message (Ok c.in-Ok.store)
    (told_change ask.size c.finish-digests.result.0.leaves c.args.self.accounts c.uploaded.new.accounts k c.args.m answer.change message (sym c.requires.taken ∙ taken.taken) (found.leaves message taken) c.in_ok-answer.ensures.accounts)
    (λ before is counter. c.in-Ok.ensures.keeps t before message is (c.in_ok-answer.ensures.number ∙ counter) (subst (λ (own : List Run). Holds own message (old.reads Blobs)) (sym runs) stored))
    (c.in-Ok.ensures.idle t))

pub returns-in-Ok-clause-grows : goal.returns-in-Ok-clause-grows
returns-in-Ok-clause-grows g c message taken =
    let k = c.args.rules.now.account in
    let ask = c.args.ask.now in
    let answer = c.in_ok-answer.answer in
    let found = c.finish-digests.ensures in
    grows_as c.args.self.journal c.finish-digests.result.1 (body_runs c.args.body)
    (change_events k c.args.m answer.change message) (action_events c.args.rules.now c.args.m (Upload ask) message c.args.self.accounts) (Ok c.in-Ok.store) found.runs
    (events_are c.args.rules.now c.args.m ask _ message (account_in c.args.self.accounts k) answer c.requires.admitted (found.linear message taken) (found.leaves message taken) c.in_ok-answer.ensures.answer)
    (c.in-Ok.ensures.grows message)

pub returns-in-Err-clause-ends : goal.returns-in-Err-clause-ends
returns-in-Err-clause-ends g c t message taken stored =
    let old = g.D.Disk.told c.args.disk.now in
    let k = c.args.rules.now.account in
    let ask = c.args.ask.now in
    let answer = c.in_ok-answer.answer in
    let found = c.finish-digests.ensures in
    let runs = found.runs in
    ends_as old (g.D.Disk.told c.keep_or_release.new.disk) c.args.self c.finish-digests.result.1 (body_runs c.args.body)
    (change_events k c.args.m answer.change message) (action_events c.args.rules.now c.args.m (Upload ask) message c.args.self.accounts) (Err c.in-Err.fault) runs
    (events_are c.args.rules.now c.args.m ask _ message (account_in c.args.self.accounts k) answer c.requires.admitted (found.linear message taken) (found.leaves message taken) c.in_ok-answer.ensures.answer)
    (change_ends old (g.D.Disk.told c.keep_or_release.new.disk) c.args.self c.uploaded.new.accounts k c.args.m answer.change c.finish-digests.result.1 message (Err c.in-Err.fault)
    (told_change ask.size c.finish-digests.result.0.leaves c.args.self.accounts c.uploaded.new.accounts k c.args.m answer.change message (sym c.requires.taken ∙ taken.taken) (found.leaves message taken) c.in_ok-answer.ensures.accounts)
    (λ before is counter. c.in-Err.ensures.keeps t before message is (c.in_ok-answer.ensures.number ∙ counter) (subst (λ (own : List Run). Holds own message (old.reads Blobs)) (sym runs) stored))
    (c.in-Err.ensures.idle t))

pub returns-in-Err-clause-grows : goal.returns-in-Err-clause-grows
returns-in-Err-clause-grows g c message taken =
    let k = c.args.rules.now.account in
    let ask = c.args.ask.now in
    let answer = c.in_ok-answer.answer in
    let found = c.finish-digests.ensures in
    grows_as c.args.self.journal c.finish-digests.result.1 (body_runs c.args.body)
    (change_events k c.args.m answer.change message) (action_events c.args.rules.now c.args.m (Upload ask) message c.args.self.accounts) (Err c.in-Err.fault) found.runs
    (events_are c.args.rules.now c.args.m ask _ message (account_in c.args.self.accounts k) answer c.requires.admitted (found.linear message taken) (found.leaves message taken) c.in_ok-answer.ensures.answer)
    (c.in-Err.ensures.grows message)
