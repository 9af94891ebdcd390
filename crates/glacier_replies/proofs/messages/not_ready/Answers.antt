use Rattle.glacier_replies.proofs.AsciiTexts.{basic_is_ascii}
use Rattle.glacier_replies.proofs.messages.not_ready.Goals as goal

pub ascii_text-ready-requires : goal.ascii_text-ready-requires
ascii_text-ready-requires c = rw c.basic_text-ready.ensures (basic_is_ascii c.args.ready c.seconds.ensures.bound)
