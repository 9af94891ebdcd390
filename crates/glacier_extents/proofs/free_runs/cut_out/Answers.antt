use Rattle.std.proofs.Common.{◌≡◌, ◌<◌, ℕ, List, length, get_or, sym, ap, subst, arith}
use Rattle.std.proofs.lemmas.List.{get_or_read}
use Rattle.glacier_extents.specs.declared.run.Run.{Run}
use Rattle.glacier_extents.specs.Runs.{block_count}
use Rattle.glacier_extents.specs.FreeRuns.{run_at, IsWithin}
use Rattle.glacier_extents.proofs.FreeLemmas.{removed_count}
use Rattle.glacier_extents.proofs.TakenLemmas.{holder_parts, out_runs, tail_free, head_free, cut_blocks}
use Rattle.glacier_extents.proofs.free_runs.cut_out.Goals as goal

-- the run that went out has the blocks
held : (xs : List Run) (at : ℕ) (run holder : Run) → at < length xs → holder ≡ get_or xs at holder
    → IsWithin run (run_at xs at) → IsWithin run holder
held xs at run holder inside is within = subst (λ (r : Run). IsWithin run r) (sym (get_or_read xs at holder inside is (record { first = 0; count = 0 }))) within

pub overflow_add-tail : goal.overflow_add-tail
overflow_add-tail c =
    let of = holder_parts c.args.runs.now.items c.args.at c.args.run c.remove-holder.result c.requires.runs c.requires.inside c.remove-holder.ensures.value in
    omega (arith, of.to)

pub put_in-requires-clause-runs : goal.put_in-requires-clause-runs
put_in-requires-clause-runs c = rw c.remove-holder.ensures.items (out_runs c.args.runs.now.items c.args.at c.args.run c.remove-holder.result c.requires.runs c.requires.inside c.remove-holder.ensures.value)

pub put_in-requires-clause-free : goal.put_in-requires-clause-free
put_in-requires-clause-free c = tail_free c.args.runs.now.items c.args.at c.args.run c.remove-holder.result c.requires.runs c.requires.inside c.remove-holder.ensures.value
    (held c.args.runs.now.items c.args.at c.args.run c.remove-holder.result c.requires.inside c.remove-holder.ensures.value c.requires.held) c.requires.run.0 c.remove-holder.new.self.items c.remove-holder.ensures.items

pub put_in-requires-2-clause-free : goal.put_in-requires-2-clause-free
put_in-requires-2-clause-free c = head_free c.args.runs.now.items c.args.at c.args.run c.remove-holder.result c.requires.runs c.requires.inside c.remove-holder.ensures.value
    (held c.args.runs.now.items c.args.at c.args.run c.remove-holder.result c.requires.inside c.remove-holder.ensures.value c.requires.held) c.requires.run.0 c.remove-holder.new.self.items c.remove-holder.ensures.items
    c.put_in.new.runs.items c.put_in.ensures.around.within c.put_in.ensures.around.front c.put_in.ensures.around.back

pub returns-clause-blocks : goal.returns-clause-blocks
returns-clause-blocks c = cut_blocks c.args.runs.now.items c.args.at c.args.run c.remove-holder.result c.requires.runs c.requires.inside c.remove-holder.ensures.value
    (held c.args.runs.now.items c.args.at c.args.run c.remove-holder.result c.requires.inside c.remove-holder.ensures.value c.requires.held) c.requires.run.0 c.remove-holder.new.self.items c.remove-holder.ensures.items
    c.put_in.new.runs.items c.put_in-2.new.runs.items c.put_in.ensures.blocks c.put_in-2.ensures.blocks

pub returns-clause-count : goal.returns-clause-count
returns-clause-count c =
    let its = held c.args.runs.now.items c.args.at c.args.run c.remove-holder.result c.requires.inside c.remove-holder.ensures.value c.requires.held in
    let out = removed_count c.args.runs.now.items c.args.at c.remove-holder.result c.requires.inside c.remove-holder.ensures.value in
    omega (arith, its.0, its.1, out, ap block_count c.remove-holder.ensures.items, c.put_in.ensures.count, c.put_in-2.ensures.count)
