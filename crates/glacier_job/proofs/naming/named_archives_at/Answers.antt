use Rattle.std.proofs.Common.{◌≡◌, ◌∙◌, sym, arith}
use Rattle.std.proofs.lemmas.Grind.{common_steps}
use Rattle.std.specs.FinMap as map
use Rattle.std.specs.List.{list_any}
use Rattle.glacier_job.specs.Naming.{names_at}
use Rattle.glacier_vault.proofs.NamingLemmas.{contains-empty}
use Rattle.glacier_job.proofs.PassLemmas.{is_named-jobs_after}
use Rattle.glacier_job.proofs.naming.named_archives_at.Goals as goal

pub loop-job-init : goal.loop-job-init
loop-job-init c number =
    let none = contains-empty (Unit {0}) number in
    grind (arith, common_steps)

pub returns : goal.returns
returns c number =
    let all : map.contains_key c.loop-job.found number ≡ list_any (names_at c.args.m c.args.vault.now.archives number) (map.values c.args.vault.now.jobs) = grind (arith, common_steps) in
    all ∙ sym (is_named-jobs_after c.args.m c.args.vault.now number)
