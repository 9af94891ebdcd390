use Rattle.std.proofs.Common.{◌≡◌, ◌∷◌, ◌++◌, ◌≤◌, length, sym, arith}
use Rattle.std.proofs.lemmas.Grind.{common_steps}
use Rattle.std.specs.Prelude.{map as each}
use Rattle.glacier_vault.specs.Lists.{numbers_from}
use Rattle.glacier_vault.proofs.PageLemmas.{page-full, page-whole}
use Rattle.glacier_upload.proofs.listing.list_uploads.Goals as goal

pub returns-then-as_slice-limit : goal.returns-then-as_slice-limit
returns-then-as_slice-limit c =
    let is : c.loop-number.numbers ++ c.in-Some.number.now ∷ each (λ e. e.0) c.next.new.self ≡ numbers_from c.args.from c.args.vault.now.uploads = grind (arith, common_steps) in
    let low : length c.loop-number.numbers ≤ c.args.limit = grind arith in
    let high : c.args.limit ≤ length c.loop-number.numbers = grind arith in
    sym (page-full c.args.limit (numbers_from c.args.from c.args.vault.now.uploads) c.loop-number.numbers c.in-Some.number.now (each (λ e. e.0) c.next.new.self) is low high)

pub returns : goal.returns
returns c =
    let is : c.loop-number.numbers ≡ numbers_from c.args.from c.args.vault.now.uploads = grind (arith, common_steps) in
    let low : length c.loop-number.numbers ≤ c.args.limit = grind arith in
    rw (sym is) (sym (page-whole c.args.limit c.loop-number.numbers low))
