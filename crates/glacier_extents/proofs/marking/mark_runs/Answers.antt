use Rattle.std.proofs.Common.{rules, ◌≡◌, ◌<◌, IsTrue, true, length, take, get_or, ◌∙◌, ap, arith}
use Rattle.std.proofs.lemmas.List.{get_or_default}
use Rattle.glacier_extents.specs.declared.run.Run.{Run}
use Rattle.glacier_extents.specs.Runs.{has_block}
use Rattle.glacier_extents.specs.FreeRuns.{run_at, IsRun, AllFree}
use Rattle.glacier_extents.proofs.MarkLemmas.{marked_distinct, marked_all, marked_rest, marked_count, would_fit, given_back}
use Rattle.glacier_extents.proofs.marking.mark_runs.Goals as goal

pub returns-then-not-take_out-clause-free : goal.returns-then-not-take_out-clause-free
returns-then-not-take_out-clause-free c =
    let runs = c.args.runs.now in
    let i = c.loop-i.i in
    let run : Run = run_at runs i in
    let inside : i < length runs = c.loop-i-test.true in
    let is : run ≡ get_or runs i run = get_or_default runs i (record { first = 0; count = 0 }) run inside in (
      λ no. search rules,
      λ both. (
          let fits : IsRun run × AllFree c.loop-i.free.items run =
          would_fit runs c.args.free.now.items c.loop-i.free.items i run inside is c.loop-i.invariant.distinct c.loop-i.invariant.all c.loop-i.invariant.rest both.0 both.1 in
          c.if-not-take_out.ensures.free.1 fits),
    )

pub returns-then-not-take_out-clause-not : goal.returns-then-not-take_out-clause-not
returns-then-not-take_out-clause-not c = λ failed.
    given_back c.args.free.now.items c.take_out.new.runs.items c.release_runs.new.free.items (take c.loop-i.i c.args.runs.now) c.requires.runs c.release_runs.ensures.runs c.loop-i.invariant.all
    (λ b. ap (λ rs. has_block rs b) (c.take_out.ensures.not c.if-not-take_out.true) ∙ c.loop-i.invariant.rest b) c.release_runs.ensures.blocks

pub loop-i-preserved : goal.loop-i-preserved
loop-i-preserved c =
    let runs = c.args.runs.now in
    let i = c.loop-i.i in
    let run : Run = run_at runs i in
    let inside : i < length runs = c.loop-i-test.true in
    let is : run ≡ get_or runs i run = get_or_default runs i (record { first = 0; count = 0 }) run inside in
    let yes : IsTrue true = search rules in
    let fits : IsRun run × AllFree c.loop-i.free.items run = c.if-not-take_out.ensures.free.0 yes in
    let so_far = c.loop-i.invariant in
    record {
      runs = c.take_out.ensures.runs;
      room = c.take_out.ensures.room;
      distinct = marked_distinct runs c.args.free.now.items c.loop-i.free.items i run inside is so_far.distinct so_far.all so_far.rest fits.0 fits.1;
      all = marked_all runs c.args.free.now.items c.loop-i.free.items i run inside is so_far.distinct so_far.all so_far.rest fits.1;
      rest = marked_rest runs c.args.free.now.items c.loop-i.free.items i run inside is so_far.distinct so_far.all so_far.rest c.take_out.new.runs.items (c.if-not-take_out.ensures.blocks yes);
      count = omega (arith, so_far.count, c.if-not-take_out.ensures.count yes, marked_count runs c.args.free.now.items c.loop-i.free.items i run inside is so_far.distinct so_far.all so_far.rest);
    }
