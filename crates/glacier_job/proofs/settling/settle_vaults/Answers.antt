use Rattle.std.proofs.Common.{◌≡◌, ◌∙◌, ap, arith}
use Rattle.std.specs.Cmp.Lexicographic.{nat_list_cmp_total}
use Rattle.glacier_base.specs.Maps.{map_values}
use Rattle.glacier_base.proofs.Changed.{changed_at_each-done}
use Rattle.glacier_base.proofs.Finite.{bytes_cmp-IsAntisymmetric}
use Rattle.glacier_vault.specs.Lengths.{snapshot_length}
use Rattle.glacier_job.specs.Pass.{passed}
use Rattle.glacier_job.proofs.settling.settle_vaults.Goals as goal

pub returns : goal.returns
returns c =
    let all : c.loop-name.state.vaults ≡ map_values (passed c.args.m) c.args.state.now.vaults =
    changed_at_each-done nat_list_cmp_total (passed c.args.m) bytes_cmp-IsAntisymmetric _ c.loop-name.name-index c.args.state.now.vaults c.loop-name.state.vaults
    (c.as_slice-name-items.ensures ∙ c.in_ok-names.ensures) (omega arith) c.loop-name.invariant.vaults in
    let length : c.loop-name.state.length ≡ snapshot_length (map_values (passed c.args.m) c.args.state.now.vaults) = c.loop-name.invariant.length ∙ ap snapshot_length all in
    λ i. record { last = c.loop-name.invariant.last i; counter = c.loop-name.invariant.counter i; vaults = all i; used = c.loop-name.invariant.used i; uploads = c.loop-name.invariant.uploads i; jobs = c.loop-name.invariant.jobs i; due = c.loop-name.invariant.due i; length = length i }
