use Rattle.std.proofs.Common.{◌≡◌, Some, ◌+◌, sym, refl, subst, arith}
use Rattle.std.proofs.lemmas.Grind.{common_steps}
use Rattle.glacier_vault.specs.Lawful.{IsLawful}
use Rattle.glacier_vault.specs.Lengths.{lock_length}
use Rattle.glacier_lock.specs.Locks.{new_lock}
use Rattle.glacier_lock.proofs.LockLemmas.{in_vault-lock, bytes-put_lock, due-put_lock, lawful-with_lock}
use Rattle.glacier_lock.proofs.changing.put_lock.Goals as goal

pub returns-clause-state : goal.returns-clause-state
returns-clause-state c =
    let there = sym c.in-Some-get_mut.ensures.value in
    let lock = new_lock c.args.state.now.counter c.args.m c.args.text c.args.policy in
    let long = subst (λ n. c.in-Some.length ≡ c.args.state.now.length + lock_length n lock) c.name_length.ensures.length c.in-Some.ensures in
    let totals = in_vault-lock c.args.state.now c.args.m c.requires.time c.requires.lawful c.args.vault.now c.in-Some-get_mut.found.now there (Some lock) (c.args.state.now.counter + 1) _ c.in-Some.length
    (due-put_lock c.args.state.now c.args.m c.requires.time c.requires.lawful c.args.vault.now c.in-Some-get_mut.found.now there c.requires.free lock refl)
    (bytes-put_lock c.args.state.now c.args.m c.requires.time c.requires.lawful c.args.vault.now c.in-Some-get_mut.found.now there c.requires.free lock c.in-Some.length long) in
    grind (arith, common_steps)

pub returns-clause-lawful : goal.returns-clause-lawful
returns-clause-lawful c = subst IsLawful (sym (returns-clause-state c))
    (lawful-with_lock c.args.state.now c.args.m c.requires.time c.requires.lawful c.args.vault.now c.in-Some-get_mut.found.now (sym c.in-Some-get_mut.ensures.value)
    (Some (new_lock c.args.state.now.counter c.args.m c.args.text c.args.policy)) (c.args.state.now.counter + 1) (omega arith) (record { number = omega arith; created = omega arith; policy = c.requires.reads }))
