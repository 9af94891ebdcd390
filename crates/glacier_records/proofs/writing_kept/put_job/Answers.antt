use Rattle.glacier_records.proofs.WrittenLemmas.{behind}
use Rattle.glacier_records.proofs.writing_kept.put_job.Goals as goal

pub returns-clause-ok : goal.returns-clause-ok
returns-clause-ok c =
    behind c.put_work.result _ _ c.args.text.now _ _ c.in_ok-put_name.ensures.ok
    (behind c.put_work.result _ _ c.put_name.new.text _ _ c.in_ok-put_number.ensures.ok
    (behind c.put_work.result _ _ c.put_number.new.text _ _ c.in_ok-put_moment.ensures.ok
    (behind c.put_work.result _ _ c.put_moment.new.text _ _ c.in_ok-put_tier.ensures
    (behind c.put_work.result _ _ c.put_tier.new.text _ _ c.in_ok-put_stage.ensures
    (behind c.put_work.result _ _ c.put_stage.new.text _ _ c.in_ok-put_description.ensures.ok
    c.put_work.ensures.ok)))))
