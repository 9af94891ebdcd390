use Rattle.std.proofs.Common.{◌≡◌, ◌∙◌, ◌∷◌, ◌++◌, ◌*◌, ◌≤◌, length, Some, ap, sym, subst, arith}
use Rattle.std.proofs.Math.Nat.{mul-le-mul}
use Rattle.std.proofs.lemmas.Grind.{common_steps}
use Rattle.std.specs.FinMap as map
use Rattle.std.specs.List.{AllByRecursion}
use Rattle.std.specs.Ordering.{nat_cmp, is_le}
use Rattle.std.specs.Int.{div_ceil}
use Rattle.std.specs.Prelude.{◌<◌, min, unwrap_or, filter, map as each}
use Rattle.glacier_vault.specs.Lists.{page}
use Rattle.glacier_vault.proofs.PageLemmas.{page-full, page-whole}
use Rattle.glacier_vault.proofs.PartSizeLemmas.{part_size-some, part_size-most}
use Rattle.glacier_upload.specs.PartLists.{indices_from}
use Rattle.glacier_upload.proofs.CoverLemmas.{each_part}
use Rattle.glacier_upload.proofs.PartListLemmas.{shown, keys_from, low_entries, low_filter}
use Rattle.glacier_upload.proofs.listing.list_parts.Goals as goal

pub first_index-first-requires : goal.first_index-first-requires
first_index-first-requires c = part_size-some c.args.upload.now.part_size c.requires.1.part_size

pub loop-index-init : goal.loop-index-init
loop-index-init c =
    let upload = c.args.upload.now in
    let low = low_entries upload.part_size (map.entries upload.parts) (each_part c.requires.0 upload c.requires.1) in
    let all = c.into_iter-index-iterator.ensures.into_iter_gives ∙ c.range_from-index-items.ensures.rest in
    record {
      so_far = ap (λ is. is ++ each (λ e. e.0) c.into_iter-index-iterator.result) c.new-indices.ensures
          ∙ ap (λ es. each (λ e. e.0) es) (all ∙ ap (λ first. filter (λ e. is_le (nat_cmp first e.0)) (map.entries upload.parts)) (c.first_index-first.ensures ∙ ap (λ from. min (div_ceil from upload.part_size) 10000) c.unwrap_or.ensures))
          ∙ keys_from upload.part_size (unwrap_or c.args.from 0) 10000 (part_size-some upload.part_size c.requires.1.part_size) (map.entries upload.parts) low;
      few = grind arith;
      low = subst (λ es. AllByRecursion (λ e. e.0 < 10000) es) (sym all) (low_filter _ (map.entries upload.parts) low);
    }

pub overflow_mul-result : goal.overflow_mul-result
overflow_mul-result c =
    let upload = c.args.upload.now in
    let right = (subst (λ es. AllByRecursion (λ e. e.0 < 10000) es) c.in-Some.ensures.steps c.loop-index.invariant.low).0 in
    let most = part_size-most upload.part_size c.requires.1.part_size in
    let low : c.from.result ≤ 9999 = omega (arith, c.from.ensures, right) in
    omega (arith, mul-le-mul {n₁ = c.from.result} {m₁ = upload.part_size} {n₂ = 9999} {m₂ = 4294967296} low most)

pub returns-then-as_slice-limit : goal.returns-then-as_slice-limit
returns-then-as_slice-limit c =
    let part_size = c.args.upload.now.part_size in
    let is : c.loop-index.indices ++ c.in-Some.index.now ∷ each (λ e. e.0) c.next.new.self ≡ indices_from c.args.from c.args.upload.now = grind (arith, common_steps) in
    let low : length c.loop-index.indices ≤ c.args.limit = grind arith in
    let high : c.args.limit ≤ length c.loop-index.indices = grind arith in
    ap (λ n. (c.loop-index.indices, Some (n * part_size))) c.from.ensures
    ∙ sym (ap (shown part_size) (page-full c.args.limit (indices_from c.args.from c.args.upload.now) c.loop-index.indices c.in-Some.index.now (each (λ e. e.0) c.next.new.self) is low high))

pub returns : goal.returns
returns c =
    let part_size = c.args.upload.now.part_size in
    let is : c.loop-index.indices ≡ indices_from c.args.from c.args.upload.now = grind (arith, common_steps) in
    let low : length c.loop-index.indices ≤ c.args.limit = grind arith in
    sym (ap (λ indices. shown part_size (page c.args.limit indices)) (sym is) ∙ ap (shown part_size) (page-whole c.args.limit c.loop-index.indices low))
