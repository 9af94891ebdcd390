use Rattle.std.proofs.Common.{[], ◌∷◌}
use Rattle.glacier_records.proofs.WrittenLemmas.{behind}
use Rattle.glacier_records.proofs.writing_values.put_work.Goals as goal

pub returns-in_ok-push-in-Archive-clause-ok : goal.returns-in_ok-push-in-Archive-clause-ok
returns-in_ok-push-in-Archive-clause-ok c =
    rw c.in-Archive.is
    (behind c.put_stretch.result _ _ c.args.text.now (0 ∷ []) _ c.in_ok-push-in-Archive.ensures.ok c.put_stretch.ensures.ok)
