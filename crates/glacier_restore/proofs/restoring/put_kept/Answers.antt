use Rattle.glacier_restore.specs.Restoring.{put}
use Rattle.glacier_restore.proofs.RestoredLemmas.{lawful-put, lawful_left}
use Rattle.glacier_restore.proofs.restoring.put_kept.Goals as goal

pub returns-clause-lawful : goal.returns-clause-lawful
returns-clause-lawful c = lawful_left c.args.state.now c.requires.lawful c.args.m _ _ (put c.args.state.now c.args.m c.args.kept.now) (lawful-put c.args.state.now c.requires.lawful c.args.m c.args.kept.now c.requires.new) c.put_item.ensures.state
