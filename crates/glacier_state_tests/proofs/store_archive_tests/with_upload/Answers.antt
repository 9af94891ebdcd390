use Rattle.std.proofs.Common.{◌<◌, ◌≤◌, arith, subst, sym}
use Rattle.glacier_vault.specs.Accounts.{account_in}
use Rattle.glacier_vault.specs.declared.state.AccountState.{AccountState}
use Rattle.glacier_state_tests.proofs.DrawnLemmas.{put_there, still_drawn}
use Rattle.glacier_state_tests.proofs.store_archive_tests.with_upload.Goals as goal

pub invariant_of-store : goal.invariant_of-store
invariant_of-store c =
    let account = c.args.ground.now.rules.account in
    let more : c.take-state.result.counter < c.uploaded.new.state.counter = omega (arith, c.if-state-number.false) in
    let stays : (account_in c.args.store.accounts account).counter ≤ c.uploaded.new.state.counter =
    subst (λ (s : AccountState). s.counter ≤ c.uploaded.new.state.counter) c.take-state.ensures.state (omega (arith, more)) in
    record {
      drawn = still_drawn c.args.store.accounts c.take-state.new.self c.put.new.self account c.uploaded.new.state
          c.take-state.ensures.rest c.in-Ok.ensures c.args.store.area.blobs stays c.args.store.drawn;
    }

pub returns-clause-drawn : goal.returns-clause-drawn
returns-clause-drawn c =
    let account = c.args.ground.now.rules.account in
    let there = put_there c.args.store.accounts c.take-state.new.self c.put.new.self account c.uploaded.new.state c.take-state.ensures.rest c.in-Ok.ensures in
    subst (λ (s : AccountState). c.take-state.result.counter < s.counter) (sym there) (omega (arith, c.if-state-number.false))
