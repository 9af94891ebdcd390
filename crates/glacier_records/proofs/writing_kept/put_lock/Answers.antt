use Rattle.glacier_records.proofs.WrittenLemmas.{behind}
use Rattle.glacier_records.proofs.writing_kept.put_lock.Goals as goal

pub returns-clause-ok : goal.returns-clause-ok
returns-clause-ok c =
    behind c.put_text.result _ _ c.args.text.now _ _ c.in_ok-put_name.ensures.ok
    (behind c.put_text.result _ _ c.put_name.new.text _ _ c.in_ok-put_number.ensures.ok
    (behind c.put_text.result _ _ c.put_number.new.text _ _ c.in_ok-put_flag.ensures
    c.put_text.ensures.ok))
