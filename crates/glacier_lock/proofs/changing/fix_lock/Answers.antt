use Rattle.std.proofs.Common.{Some, sym, refl, arith}
use Rattle.std.proofs.lemmas.Grind.{common_steps}
use Rattle.glacier_lock.specs.Locks.{locked}
use Rattle.glacier_lock.proofs.LockLemmas.{in_vault-lock, bytes-locked, of_locked, lawful-locked}
use Rattle.glacier_lock.proofs.changing.fix_lock.Goals as goal

pub returns-clause-state : goal.returns-clause-state
returns-clause-state c =
    let totals = in_vault-lock c.args.state.now c.args.m c.requires.time c.requires.lawful c.args.vault.now c.in-Some.found.now (sym c.in-Some.ensures.value) (Some (locked c.in-Some-lock.lock)) c.args.state.now.counter _ c.args.state.now.length refl
    (bytes-locked c.args.state.now c.args.m c.requires.time c.requires.lawful c.args.vault.now c.in-Some.found.now (sym c.in-Some.ensures.value) c.in-Some-lock.lock c.in-Some-lock.is) in
    of_locked c.args.state.now c.args.m c.requires.time c.requires.lawful c.args.vault.now c.in-Some.found.now (sym c.in-Some.ensures.value) c.in-Some-lock.lock c.in-Some-lock.is _ (grind (arith, common_steps))

pub returns-clause-lawful : goal.returns-clause-lawful
returns-clause-lawful c = lawful-locked c.args.state.now c.args.m c.requires.time c.requires.lawful c.args.vault.now c.in-Some.found.now (sym c.in-Some.ensures.value) c.in-Some-lock.lock c.in-Some-lock.is _ (returns-clause-state c)
