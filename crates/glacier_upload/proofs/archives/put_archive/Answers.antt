use Rattle.std.proofs.Common.{sym, subst, arith}
use Rattle.std.proofs.lemmas.Grind.{common_steps}
use Rattle.glacier_vault.specs.Lawful.{IsLawful}
use Rattle.glacier_upload.proofs.ArchiveLemmas.{right_vault, next_archive, used-with_archive, uploads-with_archive, jobs-with_archive, length-with_archive, due-with_archive, lawful-with_archive}
use Rattle.glacier_upload.proofs.archives.put_archive.Goals as goal

pub insert_archive-requires-clause-bytes : goal.insert_archive-requires-clause-bytes
insert_archive-requires-clause-bytes c =
    (right_vault c.args.state.now c.args.m c.requires.time c.requires.lawful c.args.name.now c.in-Some-get_mut.vault.now (sym c.in-Some-get_mut.ensures.value)).bytes

pub insert_archive-requires-clause-missing : goal.insert_archive-requires-clause-missing
insert_archive-requires-clause-missing c =
    next_archive c.args.state.now c.args.m c.requires.time c.requires.lawful c.args.name.now c.in-Some-get_mut.vault.now (sym c.in-Some-get_mut.ensures.value)

pub returns-clause-ok : goal.returns-clause-ok
returns-clause-ok c =
    let there = sym c.in-Some-get_mut.ensures.value in
    let used = used-with_archive c.args.state.now c.args.m c.requires.time c.requires.lawful c.args.name.now c.in-Some-get_mut.vault.now there c.args.archive in
    let uploads = uploads-with_archive c.args.state.now c.args.m c.requires.time c.requires.lawful c.args.name.now c.in-Some-get_mut.vault.now there c.args.archive in
    let jobs = jobs-with_archive c.args.state.now c.args.m c.requires.time c.requires.lawful c.args.name.now c.in-Some-get_mut.vault.now there c.args.archive in
    let length = length-with_archive c.args.state.now c.args.m c.requires.time c.requires.lawful c.args.name.now c.in-Some-get_mut.vault.now there c.args.archive c.name_length.result c.name_length.ensures.length c.in-Some-length_with_archive.length c.in-Some-length_with_archive.ensures in
    let due = due-with_archive c.args.state.now c.args.m c.requires.time c.requires.lawful c.args.name.now c.in-Some-get_mut.vault.now there c.args.archive in
    grind (arith, common_steps)

pub returns-clause-lawful : goal.returns-clause-lawful
returns-clause-lawful c = subst IsLawful (sym (returns-clause-ok c))
    (lawful-with_archive c.args.state.now c.args.m c.requires.time c.requires.lawful c.args.name.now c.in-Some-get_mut.vault.now (sym c.in-Some-get_mut.ensures.value)
    c.args.archive c.requires.fits.right c.requires.fits.blob)
