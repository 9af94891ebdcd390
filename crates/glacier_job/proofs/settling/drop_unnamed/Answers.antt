use Rattle.std.proofs.Common.{◌≡◌, ◌≤◌, ◌+◌, arith}
use Rattle.std.proofs.lemmas.Grind.{common_steps}
use Rattle.std.specs.Prelude.{not, sum_by, filter, map as each}
use Rattle.std.specs.FinMap as map
use Rattle.glacier_vault.specs.Lengths.{archive_length}
use Rattle.glacier_job.proofs.SettledLengths.{length-unnamed}
use Rattle.glacier_job.proofs.settling.drop_unnamed.Goals as goal

pub loop-number-init : goal.loop-number-init
loop-number-init c =
    let going = each (λ e. e.1) (filter (λ e. not (map.contains_key c.args.named.now e.0)) (map.entries c.args.held.now)) in
    let within : sum_by (archive_length c.args.n) going ≤ c.args.length = omega (arith, c.requires, length-unnamed c.args.n (map.contains_key c.args.named.now) c.args.held.now) in
    grind (arith, common_steps)

pub returns-clause-length : goal.returns-clause-length
returns-clause-length c =
    let going = each (λ e. e.1) (filter (λ e. not (map.contains_key c.args.named.now e.0)) (map.entries c.args.held.now)) in
    let all : c.loop-number.left + sum_by (archive_length c.args.n) going ≡ c.args.length = grind (arith, common_steps) in
    omega (arith, all, length-unnamed c.args.n (map.contains_key c.args.named.now) c.args.held.now)
