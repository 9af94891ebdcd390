use Rattle.std.proofs.Common.{sym, subst, arith}
use Rattle.std.proofs.lemmas.Grind.{common_steps}
use Rattle.glacier_vault.specs.Lawful.{IsLawful}
use Rattle.glacier_upload.proofs.MultipartLemmas.{upload_within, upload_counted, used-aborted, uploads-aborted, jobs-aborted, length_within, length-aborted, due-aborted, lawful-aborted}
use Rattle.glacier_upload.proofs.aborting.take_upload.Goals as goal

pub all_blocks-requires : goal.all_blocks-requires
all_blocks-requires c = omega (arith, upload_within c.args.state.now c.args.m c.requires.time c.requires.lawful c.args.name.now c.in-Some.vault.now (sym c.in-Some.ensures.value) c.args.upload c.in-Some-remove.open (sym c.in-Some-remove.ensures.value))

pub overflow_sub-state : goal.overflow_sub-state
overflow_sub-state c = omega (arith, upload_within c.args.state.now c.args.m c.requires.time c.requires.lawful c.args.name.now c.in-Some.vault.now (sym c.in-Some.ensures.value) c.args.upload c.in-Some-remove.open (sym c.in-Some-remove.ensures.value))

pub overflow_sub-state-2 : goal.overflow_sub-state-2
overflow_sub-state-2 c = omega (arith, upload_counted c.args.state.now c.args.m c.requires.time c.requires.lawful c.args.name.now c.in-Some.vault.now (sym c.in-Some.ensures.value) c.args.upload c.in-Some-remove.open (sym c.in-Some-remove.ensures.value))

pub length_without_upload-state-requires : goal.length_without_upload-state-requires
length_without_upload-state-requires c = length_within c.args.state.now c.args.m c.requires.time c.requires.lawful c.args.name.now c.in-Some.vault.now (sym c.in-Some.ensures.value) c.args.upload c.in-Some-remove.open (sym c.in-Some-remove.ensures.value) c.name_length.result c.name_length.ensures.length

pub returns-clause-ok : goal.returns-clause-ok
returns-clause-ok c =
    let there = sym c.in-Some.ensures.value in
    let is_open = sym c.in-Some-remove.ensures.value in
    let used = used-aborted c.args.state.now c.args.m c.requires.time c.requires.lawful c.args.name.now c.in-Some.vault.now there c.args.upload c.in-Some-remove.open is_open in
    let uploads = uploads-aborted c.args.state.now c.args.m c.requires.time c.requires.lawful c.args.name.now c.in-Some.vault.now there c.args.upload c.in-Some-remove.open is_open in
    let jobs = jobs-aborted c.args.state.now c.args.m c.requires.time c.requires.lawful c.args.name.now c.in-Some.vault.now there c.args.upload c.in-Some-remove.open is_open in
    let length = length-aborted c.args.state.now c.args.m c.requires.time c.requires.lawful c.args.name.now c.in-Some.vault.now there c.args.upload c.in-Some-remove.open is_open c.name_length.result c.name_length.ensures.length c.length_without_upload-state.result c.length_without_upload-state.ensures in
    let due = due-aborted c.args.state.now c.args.m c.requires.time c.requires.lawful c.args.name.now c.in-Some.vault.now there c.args.upload c.in-Some-remove.open is_open in
    grind (arith, common_steps)

pub returns-clause-lawful : goal.returns-clause-lawful
returns-clause-lawful c = subst IsLawful (sym (returns-clause-ok c))
    (lawful-aborted c.args.state.now c.args.m c.requires.time c.requires.lawful c.args.name.now c.in-Some.vault.now (sym c.in-Some.ensures.value)
    c.args.upload c.in-Some-remove.open (sym c.in-Some-remove.ensures.value))
