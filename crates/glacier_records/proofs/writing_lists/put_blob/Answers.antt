use Rattle.glacier_records.proofs.WrittenLemmas.{behind}
use Rattle.glacier_records.proofs.writing_lists.put_blob.Goals as goal

pub returns-clause-ok : goal.returns-clause-ok
returns-clause-ok c =
    behind c.put_runs.result _ _ c.args.text.now _ _ c.in_ok-put_number.ensures.ok
    c.put_runs.ensures.ok
