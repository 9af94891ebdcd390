use Rattle.std.proofs.Common.{◌≡◌, ◌∷◌, ◌++◌, ◌≤◌, length, sym, arith}
use Rattle.std.proofs.lemmas.Grind.{common_steps}
use Rattle.std.specs.FinMap.{keys}
use Rattle.glacier_vault.proofs.PageLemmas.{page-full, page-whole}
use Rattle.glacier_vault.proofs.listing.first_names.Goals as goal

pub returns-then-as_slice-limit : goal.returns-then-as_slice-limit
returns-then-as_slice-limit c =
    let is : c.loop-name.names ++ c.in-Some.name.now ∷ c.next.new.self ≡ keys c.args.state.now.vaults = grind (arith, common_steps) in
    let low : length c.loop-name.names ≤ c.args.limit = grind arith in
    let high : c.args.limit ≤ length c.loop-name.names = grind arith in
    sym (page-full c.args.limit (keys c.args.state.now.vaults) c.loop-name.names c.in-Some.name.now c.next.new.self is low high)

pub returns : goal.returns
returns c =
    let is : c.loop-name.names ≡ keys c.args.state.now.vaults = grind (arith, common_steps) in
    let low : length c.loop-name.names ≤ c.args.limit = grind arith in
    rw (sym is) (sym (page-whole c.args.limit c.loop-name.names low))
