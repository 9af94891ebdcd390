use Rattle.std.specs.FinMap.{get}
use Rattle.std.proofs.Common.{◌≡◌, None, sym, subst, arith}
use Rattle.std.proofs.lemmas.Grind.{common_steps}
use Rattle.glacier_vault.specs.Lawful.{IsLawful}
use Rattle.glacier_vault.specs.Totals.{bytes_in}
use Rattle.glacier_upload.proofs.ArchiveLemmas.{right_vault, next_archive}
use Rattle.glacier_upload.proofs.CompletionLemmas.{counted, open_there, length_open, used-finished, uploads-finished, jobs-finished, length-finished, due-finished, lawful-finished}
use Rattle.glacier_upload.proofs.completion.finish_upload.Goals as goal

pub insert_archive-requires-clause-bytes : goal.insert_archive-requires-clause-bytes
insert_archive-requires-clause-bytes c =
    subst (λ v. v.bytes ≡ bytes_in v.archives) (sym c.in_ok-length.ensures.vault)
    (right_vault c.args.state.now c.args.m c.requires.time c.requires.lawful c.args.name.now c.in-Some-get_mut.vault.now (sym c.in-Some-get_mut.ensures.value)).bytes

pub insert_archive-requires-clause-missing : goal.insert_archive-requires-clause-missing
insert_archive-requires-clause-missing c =
    subst (λ v. get v.archives c.args.state.now.counter ≡ None) (sym c.in_ok-length.ensures.vault)
    (next_archive c.args.state.now c.args.m c.requires.time c.requires.lawful c.args.name.now c.in-Some-get_mut.vault.now (sym c.in-Some-get_mut.ensures.value))

pub close_upload-requires-clause-there : goal.close_upload-requires-clause-there
close_upload-requires-clause-there c = open_there c.args.state.now c.args.m c.requires.time c.requires.lawful c.args.name.now c.args.upload c.args.archive c.requires.fits c.in-Some-get_mut.vault.now (sym c.in-Some-get_mut.ensures.value)

pub close_upload-requires-clause-within : goal.close_upload-requires-clause-within
close_upload-requires-clause-within c =
    omega (arith, c.in-Some.ensures, length_open c.args.state.now c.args.m c.requires.time c.requires.lawful c.args.name.now c.args.upload c.args.archive c.requires.fits c.in-Some-get_mut.vault.now (sym c.in-Some-get_mut.ensures.value) c.name_length-n.result c.name_length-n.ensures.length)

pub overflow_sub-state : goal.overflow_sub-state
overflow_sub-state c = omega (arith, counted c.args.state.now c.args.m c.requires.time c.requires.lawful c.args.name.now c.args.upload c.args.archive c.requires.fits c.in-Some-get_mut.vault.now (sym c.in-Some-get_mut.ensures.value))

pub returns-clause-ok : goal.returns-clause-ok
returns-clause-ok c =
    let there = sym c.in-Some-get_mut.ensures.value in
    let used = used-finished c.args.state.now c.args.m c.requires.time c.requires.lawful c.args.name.now c.args.upload c.args.archive c.requires.fits c.in-Some-get_mut.vault.now there in
    let uploads = uploads-finished c.args.state.now c.args.m c.requires.time c.requires.lawful c.args.name.now c.args.upload c.args.archive c.requires.fits c.in-Some-get_mut.vault.now there in
    let jobs = jobs-finished c.args.state.now c.args.m c.requires.time c.requires.lawful c.args.name.now c.args.upload c.args.archive c.requires.fits c.in-Some-get_mut.vault.now there in
    let length = length-finished c.args.state.now c.args.m c.requires.time c.requires.lawful c.args.name.now c.args.upload c.args.archive c.requires.fits c.in-Some-get_mut.vault.now there c.name_length-n.result c.name_length-n.ensures.length c.in_ok-length.length (omega (arith, c.in-Some.ensures, c.in_ok-length.ensures.length)) in
    let due = due-finished c.args.state.now c.args.m c.requires.time c.requires.lawful c.args.name.now c.args.upload c.args.archive c.requires.fits c.in-Some-get_mut.vault.now there in
    grind (arith, common_steps)

pub returns-clause-lawful : goal.returns-clause-lawful
returns-clause-lawful c = subst IsLawful (sym (returns-clause-ok c))
    (lawful-finished c.args.state.now c.args.m c.requires.time c.requires.lawful c.args.name.now c.args.upload c.args.archive c.requires.fits c.in-Some-get_mut.vault.now (sym c.in-Some-get_mut.ensures.value))
