use Rattle.std.proofs.Common.{◌≡◌, ◌∙◌, ap, sym, arith}
use Rattle.std.proofs.lemmas.Grind.{common_steps}
use Rattle.std.specs.Prelude.{◌||◌}
use Rattle.std.specs.FinMap as map
use Rattle.std.specs.List.{list_any}
use Rattle.glacier_vault.specs.Named.{Names, names}
use Rattle.glacier_vault.proofs.NamingLemmas.{contains-empty, contains-with_name, names_are, or-false}
use Rattle.glacier_job.proofs.naming.named_archives.Goals as goal

pub loop-job-init : goal.loop-job-init
loop-job-init c number =
    let none = contains-empty (Unit {0}) number in
    grind (arith, common_steps)

pub loop-job-preserved : goal.loop-job-preserved
loop-job-preserved c number =
    let step = ap (λ (found : Names). map.contains_key found number) c.in_ok-add_name.ensures.ok ∙ contains-with_name c.in-Some.job.now c.loop-job.found number in
    let before = c.loop-job.invariant number in
    grind (arith, common_steps)

pub returns : goal.returns
returns c = names_are c.loop-job.found c.args.jobs.now (λ number.
    sym (or-false (map.contains_key c.loop-job.found number))
    ∙ ap (λ js. map.contains_key c.loop-job.found number || list_any (names number) js) (sym c.in-None.ensures.steps.0)
    ∙ c.loop-job.invariant number)
