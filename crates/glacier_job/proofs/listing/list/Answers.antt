use Rattle.std.proofs.Common.{◌≡◌, ◌∷◌, ◌++◌, ◌≤◌, length, sym, arith}
use Rattle.std.proofs.lemmas.Grind.{common_steps}
use Rattle.std.specs.Prelude.{filter, map as each}
use Rattle.glacier_vault.proofs.PageLemmas.{page-full, page-whole}
use Rattle.glacier_job.specs.Finding.{fits, jobs_from}
use Rattle.glacier_job.proofs.listing.list.Goals as goal

pub returns-then-as_slice-limit : goal.returns-then-as_slice-limit
returns-then-as_slice-limit c =
    let all = jobs_from c.args.completed c.args.stage c.args.from c.args.vault.now in
    let behind = each (λ e. e.0) (filter (λ e. fits c.args.completed c.args.stage e.1) c.next.new.self) in
    let is : c.loop-number.numbers ++ c.in-Some.number.now ∷ behind ≡ all = grind (arith, common_steps) in
    let low : length c.loop-number.numbers ≤ c.args.limit = grind arith in
    let high : c.args.limit ≤ length c.loop-number.numbers = grind arith in
    sym (page-full c.args.limit all c.loop-number.numbers c.in-Some.number.now behind is low high)

pub returns : goal.returns
returns c =
    let is : c.loop-number.numbers ≡ jobs_from c.args.completed c.args.stage c.args.from c.args.vault.now = grind (arith, common_steps) in
    let low : length c.loop-number.numbers ≤ c.args.limit = grind arith in
    rw (sym is) (sym (page-whole c.args.limit c.loop-number.numbers low))
