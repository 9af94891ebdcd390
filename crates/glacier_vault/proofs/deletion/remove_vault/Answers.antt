use Rattle.std.proofs.Common.{◌≡◌, ◌≤◌, ◌+◌, sym, subst, arith}
use Rattle.std.proofs.lemmas.Grind.{common_steps}
use Rattle.glacier_vault.specs.Lawful.{IsLawful}
use Rattle.glacier_vault.specs.Lengths.{lengths}
use Rattle.glacier_vault.specs.Totals.{vault_total}
use Rattle.glacier_vault.proofs.DeletedLength.{vault_length_within, length-delete}
use Rattle.glacier_vault.proofs.DeletionLemmas.{bare_there, held_within, jobs_within, used-delete, uploads-delete, jobs-delete, lawful-removal}
use Rattle.glacier_vault.proofs.deletion.remove_vault.Goals as goal

pub without_blocks-used-requires : goal.without_blocks-used-requires
without_blocks-used-requires c = held_within c.args.state.now c.requires.lawful c.args.name.now c.in-Some.vault.now (sym c.in-Some.ensures)

pub overflow_sub-jobs : goal.overflow_sub-jobs
overflow_sub-jobs c = omega (arith, c.len.ensures.len, jobs_within c.args.state.now c.requires.lawful c.args.name.now c.in-Some.vault.now (sym c.in-Some.ensures))

pub length_without_vault-length-requires-clause-bare : goal.length_without_vault-length-requires-clause-bare
length_without_vault-length-requires-clause-bare c = bare_there c.args.state.now c.args.name.now c.in-Some.vault.now (sym c.in-Some.ensures) c.requires.may

pub length_without_vault-length-requires-clause-within : goal.length_without_vault-length-requires-clause-within
length_without_vault-length-requires-clause-within c =
    subst (λ n. vault_total (lengths n) c.in-Some.vault.now ≤ c.args.state.now.length) (sym c.name_length.ensures.length)
    (vault_length_within c.args.state.now c.args.m c.requires.lawful c.args.name.now c.in-Some.vault.now (sym c.in-Some.ensures))

pub returns-clause-state : goal.returns-clause-state
returns-clause-state c =
    let there = sym c.in-Some.ensures in
    let bare = bare_there c.args.state.now c.args.name.now c.in-Some.vault.now there c.requires.may in
    let used = used-delete c.args.state.now c.requires.lawful c.args.name.now c.in-Some.vault.now there bare in
    let uploads = uploads-delete c.args.state.now c.requires.lawful c.args.name.now c.in-Some.vault.now there bare in
    let jobs = jobs-delete c.args.state.now c.requires.lawful c.args.name.now c.in-Some.vault.now there bare in
    let length = length-delete c.args.state.now c.args.m c.requires.lawful c.args.name.now c.in-Some.vault.now there c.length_without_vault-length.result
    (subst (λ n. c.length_without_vault-length.result + vault_total (lengths n) c.in-Some.vault.now ≡ c.args.state.now.length) c.name_length.ensures.length c.length_without_vault-length.ensures) in
    grind (arith, common_steps)

pub returns-clause-lawful : goal.returns-clause-lawful
returns-clause-lawful c = subst IsLawful (sym (returns-clause-state c))
    (lawful-removal c.args.state.now c.args.m c.args.name.now c.requires.lawful c.requires.time c.in-Some.vault.now (sym c.in-Some.ensures))
