use Rattle.glacier_host.proofs.ListLemmas.{moved}
use Rattle.glacier_host.proofs.held_bytes.move_front.Goals as goal

pub returns : goal.returns
returns c = moved c.args.buffer.now c.copy_within.new.self c.args.start c.args.end c.requires.order c.requires.within c.copy_within.ensures.after
