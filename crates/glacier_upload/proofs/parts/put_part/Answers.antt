use Rattle.std.proofs.Common.{sym, subst, arith}
use Rattle.std.proofs.lemmas.Grind.{common_steps}
use Rattle.glacier_vault.specs.Lawful.{IsLawful}
use Rattle.glacier_upload.proofs.PartLemmas.{room_replaced, used-with_part, uploads-with_part, jobs-with_part, length_replaced, length-with_part, due-with_part, lawful-with_part, fits_right}
use Rattle.glacier_upload.proofs.parts.put_part.Goals as goal

pub overflow_sub-state : goal.overflow_sub-state
overflow_sub-state c = omega (
  arith,
  room_replaced c.args.state.now c.args.m c.requires.time c.requires.lawful c.args.name.now c.in-Some-get_mut.vault.now (sym c.in-Some-get_mut.ensures.value)
      c.args.upload c.in-Some-get_mut-2.open.now (sym c.in-Some-get_mut-2.ensures.value) c.args.index c.args.part,
  c.in-Some.ensures,
  c.blocks_of.ensures,
  c.in_ok-replaced.ensures.sizes.0,
)

pub replace-requires : goal.replace-requires
replace-requires c =
    let there = sym c.in-Some-get_mut.ensures.value in
    let is_open = sym c.in-Some-get_mut-2.ensures.value in
    omega (arith, c.in-Some-length_with_part.ensures, length_replaced c.args.state.now c.args.m c.requires.time c.requires.lawful c.args.name.now c.in-Some-get_mut.vault.now there c.args.upload c.in-Some-get_mut-2.open.now is_open c.args.index c.args.part c.name_length-n.result c.name_length-n.ensures.length)

pub returns-clause-ok : goal.returns-clause-ok
returns-clause-ok c =
    let there = sym c.in-Some-get_mut.ensures.value in
    let is_open = sym c.in-Some-get_mut-2.ensures.value in
    let used = used-with_part c.args.state.now c.args.m c.requires.time c.requires.lawful c.args.name.now c.in-Some-get_mut.vault.now there c.args.upload c.in-Some-get_mut-2.open.now is_open c.args.index c.args.part in
    let uploads = uploads-with_part c.args.state.now c.args.m c.requires.time c.requires.lawful c.args.name.now c.in-Some-get_mut.vault.now there c.args.upload c.in-Some-get_mut-2.open.now is_open c.args.index c.args.part in
    let jobs = jobs-with_part c.args.state.now c.args.m c.requires.time c.requires.lawful c.args.name.now c.in-Some-get_mut.vault.now there c.args.upload c.in-Some-get_mut-2.open.now is_open c.args.index c.args.part in
    let room = c.in_ok-replaced.ensures.sizes.0 in
    let length = length-with_part c.args.state.now c.args.m c.requires.time c.requires.lawful c.args.name.now c.in-Some-get_mut.vault.now there c.args.upload c.in-Some-get_mut-2.open.now is_open c.args.index c.args.part c.name_length-n.result c.name_length-n.ensures.length c.in_ok-replaced.replaced.length
    (omega (arith, c.in-Some-length_with_part.ensures, c.in_ok-replaced.ensures.sizes.1)) in
    let due = due-with_part c.args.state.now c.args.m c.requires.time c.requires.lawful c.args.name.now c.in-Some-get_mut.vault.now there c.args.upload c.in-Some-get_mut-2.open.now is_open c.args.index c.args.part in
    grind (arith, common_steps)

pub returns-clause-lawful : goal.returns-clause-lawful
returns-clause-lawful c =
    let there = sym c.in-Some-get_mut.ensures.value in
    let is_open = sym c.in-Some-get_mut-2.ensures.value in
    let right = fits_right c.args.state.now c.args.m c.requires.time c.requires.lawful c.args.name.now c.in-Some-get_mut.vault.now there c.args.upload c.in-Some-get_mut-2.open.now is_open c.args.index c.args.part c.requires.fits in
    subst IsLawful (sym (returns-clause-ok c))
    (lawful-with_part c.args.state.now c.args.m c.requires.time c.requires.lawful c.args.name.now c.in-Some-get_mut.vault.now there c.args.upload c.in-Some-get_mut-2.open.now is_open
    c.args.index c.args.part right c.requires.fits.blob)
