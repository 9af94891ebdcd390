use Rattle.std.proofs.Common.{◌≡◌, ◌≤◌, ◌+◌, sym, subst, arith}
use Rattle.std.proofs.lemmas.Grind.{common_steps}
use Rattle.glacier_vault.specs.Deletions.{length_freed}
use Rattle.glacier_vault.specs.Lawful.{IsLawful}
use Rattle.glacier_vault.proofs.DeletedLength.{length_freed_within, length-without_archive}
use Rattle.glacier_vault.proofs.WithoutArchive.{room_within, used-without_archive, uploads-without_archive, jobs-without_archive, due-without_archive, lawful-deletion}
use Rattle.glacier_vault.proofs.deletion.delete_archive.Goals as goal

pub overflow_sub-state : goal.overflow_sub-state
overflow_sub-state c = omega (arith, c.in_ok-freed.ensures.sizes.0, room_within c.args.state.now c.args.m c.requires.lawful c.args.name.now c.args.archive c.in-Some.vault.now (sym c.in-Some.ensures.value) c.requires.live)

pub take_out-requires-clause-within : goal.take_out-requires-clause-within
take_out-requires-clause-within c =
    subst (λ n. length_freed n c.args.archive c.in-Some.vault.now ≤ c.args.state.now.length) (sym c.name_length.ensures.length)
    (length_freed_within c.args.state.now c.args.m c.requires.lawful c.args.name.now c.in-Some.vault.now (sym c.in-Some.ensures.value) c.args.archive c.requires.live)

pub returns-clause-state : goal.returns-clause-state
returns-clause-state c =
    let room = c.in_ok-freed.ensures.sizes.0 in
    let there = sym c.in-Some.ensures.value in
    let used = used-without_archive c.args.state.now c.args.m c.requires.lawful c.args.name.now c.args.archive c.in-Some.vault.now there c.requires.live in
    let uploads = uploads-without_archive c.args.state.now c.args.m c.requires.lawful c.args.name.now c.args.archive c.in-Some.vault.now there c.requires.live in
    let jobs = jobs-without_archive c.args.state.now c.args.m c.requires.lawful c.args.name.now c.args.archive c.in-Some.vault.now there c.requires.live in
    let due = due-without_archive c.args.state.now c.args.m c.requires.lawful c.args.name.now c.args.archive c.in-Some.vault.now there c.requires.live in
    let length = length-without_archive c.args.state.now c.args.m c.requires.lawful c.args.name.now c.in-Some.vault.now there c.args.archive c.requires.live c.in_ok-freed.freed.length
    (subst (λ n. c.in_ok-freed.freed.length + length_freed n c.args.archive c.in-Some.vault.now ≡ c.args.state.now.length) c.name_length.ensures.length c.in_ok-freed.ensures.sizes.1) in
    grind (arith, common_steps)

pub returns-clause-lawful : goal.returns-clause-lawful
returns-clause-lawful c = subst IsLawful (sym (returns-clause-state c))
    (lawful-deletion c.args.state.now c.args.m c.requires.lawful c.args.name.now c.args.archive c.in-Some.vault.now (sym c.in-Some.ensures.value) c.requires.live c.requires.time)
