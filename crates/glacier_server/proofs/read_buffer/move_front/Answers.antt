use Rattle.glacier_server.proofs.ListLemmas.{moved}
use Rattle.glacier_server.proofs.read_buffer.move_front.Goals as goal

pub returns : goal.returns
returns c = moved c.args.buffer.now c.copy_within.new.self c.args.start c.args.end c.requires.order c.requires.within c.copy_within.ensures.after
