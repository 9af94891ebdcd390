use Rattle.glacier_records.proofs.WrittenLemmas.{behind}
use Rattle.glacier_records.proofs.writing_events.put_inventory.Goals as goal

pub returns-clause-ok : goal.returns-clause-ok
returns-clause-ok c =
    behind c.put_description.result _ _ c.args.text.now _ _ c.in_ok-put_name.ensures.ok
    (behind c.put_description.result _ _ c.put_name.new.text _ _ c.in_ok-put_flag.ensures
    (behind c.put_description.result _ _ c.put_flag.new.text _ _ c.in_ok-put_tier.ensures
    (behind c.put_description.result _ _ c.put_tier.new.text _ _ c.in_ok-put_moment.ensures.ok
    c.put_description.ensures.ok)))
