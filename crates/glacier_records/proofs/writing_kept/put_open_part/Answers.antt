use Rattle.glacier_records.proofs.WrittenLemmas.{behind}
use Rattle.glacier_records.proofs.writing_kept.put_open_part.Goals as goal

pub returns-clause-ok : goal.returns-clause-ok
returns-clause-ok c =
    behind c.put_runs.result _ _ c.args.text.now _ _ c.in_ok-put_name.ensures.ok
    (behind c.put_runs.result _ _ c.put_name.new.text _ _ c.in_ok-put_number.ensures.ok
    (behind c.put_runs.result _ _ c.put_number.new.text _ _ c.in_ok-put_index.ensures.ok
    (behind c.put_runs.result _ _ c.put_index.new.text _ _ c.in_ok-put_number-2.ensures.ok
    (behind c.put_runs.result _ _ c.put_number-2.new.text _ _ c.in_ok-put_number-3.ensures.ok
    (behind c.put_runs.result _ _ c.put_number-3.new.text _ _ c.in_ok-put_leaves.ensures.ok
    c.put_runs.ensures.ok)))))
