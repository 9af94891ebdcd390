use Rattle.std.proofs.Common.{sym, arith}
use Rattle.std.proofs.lemmas.Grind.{common_steps}
use Rattle.glacier_job.proofs.SettledLengths.{length_there, length-passed}
use Rattle.glacier_job.proofs.settling.settle_name.Goals as goal

pub settle_vault-requires : goal.settle_vault-requires
settle_vault-requires c = length_there c.args.state.now.vaults c.args.name.now c.in-Some.vault.now (sym c.in-Some.ensures.value) c.name_length.result c.args.state.now.length c.name_length.ensures.length c.requires

pub returns : goal.returns
returns c =
    let length = length-passed c.args.state.now.vaults c.args.name.now c.in-Some.vault.now (sym c.in-Some.ensures.value) c.name_length.result c.args.state.now.length c.name_length.ensures.length c.requires
    c.args.m c.in_ok-state.field-0 c.in_ok-state.ensures.length in
    grind (arith, common_steps)
