use Rattle.std.proofs.Common.{◌≡◌, ◌≤◌, ◌+◌, None, sym, refl, subst, arith}
use Rattle.std.proofs.lemmas.Grind.{common_steps}
use Rattle.glacier_vault.specs.Lawful.{IsLawful}
use Rattle.glacier_vault.specs.Lengths.{lengths}
use Rattle.glacier_vault.specs.Totals.{lock_total}
use Rattle.glacier_lock.proofs.LockLemmas.{lock_within, in_vault-lock, lawful-with_lock}
use Rattle.glacier_lock.proofs.changing.take_lock.Goals as goal

pub length_without_lock-length-requires : goal.length_without_lock-length-requires
length_without_lock-length-requires c = subst (λ n. lock_total (lengths n) c.in-Some.found.now.lock ≤ c.args.state.now.length) (sym c.name_length.ensures.length)
    (lock_within c.args.state.now c.args.m c.requires.time c.requires.lawful c.args.vault.now c.in-Some.found.now (sym c.in-Some.ensures.value))

pub returns-clause-state : goal.returns-clause-state
returns-clause-state c =
    let left = c.length_without_lock-length.result in
    let long = subst (λ n. left + lock_total (lengths n) c.in-Some.found.now.lock ≡ c.args.state.now.length) c.name_length.ensures.length c.length_without_lock-length.ensures in
    let totals = in_vault-lock c.args.state.now c.args.m c.requires.time c.requires.lawful c.args.vault.now c.in-Some.found.now (sym c.in-Some.ensures.value) None c.args.state.now.counter _ left refl (omega (arith, long)) in
    grind (arith, common_steps)

pub returns-clause-lawful : goal.returns-clause-lawful
returns-clause-lawful c = subst IsLawful (sym (returns-clause-state c))
    (lawful-with_lock c.args.state.now c.args.m c.requires.time c.requires.lawful c.args.vault.now c.in-Some.found.now (sym c.in-Some.ensures.value) None c.args.state.now.counter (omega arith) tt)
