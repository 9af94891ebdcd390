use Rattle.std.proofs.Common.{sym, subst, arith}
use Rattle.std.proofs.lemmas.Grind.{common_steps}
use Rattle.glacier_vault.specs.Lawful.{IsLawful}
use Rattle.glacier_upload.proofs.MultipartLemmas.{used-begun, uploads-begun, jobs-begun, length-begun, due-begun, lawful-begun}
use Rattle.glacier_upload.proofs.beginning.put_upload.Goals as goal

pub returns-clause-ok : goal.returns-clause-ok
returns-clause-ok c =
    let there = sym c.in-Some-get_mut.ensures.value in
    let used = used-begun c.args.state.now c.args.m c.requires.time c.requires.lawful c.args.name.now c.in-Some-get_mut.vault.now there c.args.upload c.requires.fits.bare in
    let uploads = uploads-begun c.args.state.now c.args.m c.requires.time c.requires.lawful c.args.name.now c.in-Some-get_mut.vault.now there c.args.upload c.requires.fits.bare in
    let jobs = jobs-begun c.args.state.now c.args.m c.requires.time c.requires.lawful c.args.name.now c.in-Some-get_mut.vault.now there c.args.upload c.requires.fits.bare in
    let length = length-begun c.args.state.now c.args.m c.requires.time c.requires.lawful c.args.name.now c.in-Some-get_mut.vault.now there c.args.upload c.requires.fits.bare c.name_length.result c.name_length.ensures.length c.in-Some-length_with_upload.length c.in-Some-length_with_upload.ensures in
    let due = due-begun c.args.state.now c.args.m c.requires.time c.requires.lawful c.args.name.now c.in-Some-get_mut.vault.now there c.args.upload c.requires.fits.bare in
    grind (arith, common_steps)

pub returns-clause-lawful : goal.returns-clause-lawful
returns-clause-lawful c = subst IsLawful (sym (returns-clause-ok c))
    (lawful-begun c.args.state.now c.args.m c.requires.time c.requires.lawful c.args.name.now c.in-Some-get_mut.vault.now (sym c.in-Some-get_mut.ensures.value)
    c.args.upload c.requires.fits.bare c.requires.fits.right)
