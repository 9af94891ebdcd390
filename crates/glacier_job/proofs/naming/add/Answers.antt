use Rattle.std.proofs.Common.{◌∙◌, ◌||◌, ap, sym}
use Rattle.std.specs.FinMap as map
use Rattle.glacier_job.specs.Naming.{is_archive}
use Rattle.glacier_vault.proofs.NamingLemmas.{contains-insert}
use Rattle.glacier_job.proofs.naming.add.Goals as goal

pub returns : goal.returns
returns c number =
    ap (λ m. map.contains_key m number) c.in_ok-insert.ensures.ok
    ∙ contains-insert c.args.found.now c.in-Some.archive _ number
    ∙ ap (λ r. map.contains_key c.args.found.now number || is_archive r number) (sym c.in-Some.is)
