use Rattle.std.proofs.Common.{◌≡◌, ◌∷◌, ◌++◌, ◌≤◌, Some, length, sym, arith}
use Rattle.std.proofs.lemmas.Grind.{common_steps}
use Rattle.std.specs.Prelude.{map as each}
use Rattle.glacier_vault.specs.Lists.{names_from}
use Rattle.glacier_vault.proofs.PageLemmas.{page-full, page-whole}
use Rattle.glacier_vault.proofs.listing.names_at.Goals as goal

pub returns-then-as_slice-limit : goal.returns-then-as_slice-limit
returns-then-as_slice-limit c =
    let is : c.loop-name.names ++ c.in-Some.name.now ∷ each (λ e. e.0) c.next.new.self ≡ names_from (Some c.args.from.now) c.args.state.now = grind (arith, common_steps) in
    let low : length c.loop-name.names ≤ c.args.limit = grind arith in
    let high : c.args.limit ≤ length c.loop-name.names = grind arith in
    sym (page-full c.args.limit (names_from (Some c.args.from.now) c.args.state.now) c.loop-name.names c.in-Some.name.now (each (λ e. e.0) c.next.new.self) is low high)

pub returns : goal.returns
returns c =
    let is : c.loop-name.names ≡ names_from (Some c.args.from.now) c.args.state.now = grind (arith, common_steps) in
    let low : length c.loop-name.names ≤ c.args.limit = grind arith in
    rw (sym is) (sym (page-whole c.args.limit c.loop-name.names low))
