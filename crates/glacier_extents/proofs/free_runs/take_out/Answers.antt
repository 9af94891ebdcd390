use Rattle.std.proofs.Common.{rules, ◌<◌, length, List, subst}
use Rattle.glacier_extents.specs.declared.run.Run.{Run}
use Rattle.glacier_extents.specs.FreeRuns.{run_at, IsRun, AllFree, IsWithin}
use Rattle.glacier_extents.proofs.TakenLemmas.{all_held}
use Rattle.glacier_extents.proofs.free_runs.take_out.Goals as goal

pub returns-in-Some-clause-free : goal.returns-in-Some-clause-free
returns-in-Some-clause-free c =
    let run : IsRun c.args.run = search rules in
    let at = c.in-Some.at in
    let found : (at < length c.args.runs.now.items) × IsWithin c.args.run (run_at c.args.runs.now.items at) =
    subst (λ (rs : List Run). (at < length rs) × IsWithin c.args.run (run_at rs at)) c.deref.ensures.value c.in-Some.ensures.some in
    let all : AllFree c.args.runs.now.items c.args.run = all_held c.args.runs.now.items at c.args.run found.0 found.1 in
    (λ yes. (run, all), λ both. search rules)
