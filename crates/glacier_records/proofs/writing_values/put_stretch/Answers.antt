use Rattle.glacier_records.proofs.WrittenLemmas.{behind}
use Rattle.glacier_records.proofs.writing_values.put_stretch.Goals as goal

pub returns-clause-ok : goal.returns-clause-ok
returns-clause-ok c =
    behind c.put_optional.result _ _ c.args.text.now _ _ c.in_ok-put_number.ensures.ok
    (behind c.put_optional.result _ _ c.put_number.new.text _ _ c.in_ok-put_number-2.ensures.ok
    (behind c.put_optional.result _ _ c.put_number-2.new.text _ _ c.in_ok-put_digest.ensures.ok
    (behind c.put_optional.result _ _ c.put_digest.new.text _ _ c.in_ok-put_number-3.ensures.ok
    (behind c.put_optional.result _ _ c.put_number-3.new.text _ _ c.in_ok-put_number-4.ensures.ok
    c.put_optional.ensures.ok))))
