use Rattle.std.proofs.Common.{◌≡◌, ◌+◌, ◌-◌, ◌<◌, length, ap, arith}
use Rattle.glacier_extents.specs.FreeRuns.{run_at}
use Rattle.std.proofs.lemmas.List.{get_or_default}
use Rattle.glacier_extents.specs.declared.run.Run.{Run}
use Rattle.glacier_extents.proofs.RunLemmas.{parts_at}
use Rattle.glacier_extents.proofs.TakenLemmas.{none_first, none_held}
use Rattle.glacier_extents.proofs.free_runs.holder_of.Goals as goal

pub returns-then-behind-eq0-clause-none : goal.returns-then-behind-eq0-clause-none
returns-then-behind-eq0-clause-none c =
    let first : c.place_of-behind.result ≡ 0 = c.if-behind-eq0.true in
    none_first c.args.runs.now c.args.run c.requires.runs
    (λ some. (let same = ap (λ k. (run_at c.args.runs.now k).first) first in omega (arith, same, c.place_of-behind.ensures.behind (omega (arith, first, some))))) c.requires.run.0

pub overflow_add-holder : goal.overflow_add-holder
overflow_add-holder c =
    let inside : c.place_of-behind.result - 1 < length c.args.runs.now = omega (arith, c.place_of-behind.ensures.within) in
    let of = parts_at 0 _ c.args.runs.now (c.place_of-behind.result - 1) (record { first = 0; count = 0 }) inside c.requires.runs in
    omega (arith, of.to)

pub returns-then-holder-run-clause-none : goal.returns-then-holder-run-clause-none
returns-then-holder-run-clause-none c =
    let at = c.place_of-behind.result - 1 in
    let none : Run = record { first = 0; count = 0 } in
    let inside : at < length c.args.runs.now = omega (arith, c.place_of-behind.ensures.within) in
    let some : 0 < c.place_of-behind.result = omega (arith, c.if-behind-eq0.false) in
    let next : at + 1 ≡ c.place_of-behind.result = omega (arith, some) in
    let same = ap (λ k. (run_at c.args.runs.now k).first) next in
    none_held c.args.runs.now at c.args.run (run_at c.args.runs.now at) c.requires.runs inside (get_or_default c.args.runs.now at none (run_at c.args.runs.now at) inside)
    (omega (arith, c.place_of-behind.ensures.before some)) (λ less. omega (arith, same, c.place_of-behind.ensures.behind (omega (arith, next, less)))) c.requires.run.0 c.if-holder-run.true
