use Rattle.glacier_replies.proofs.AsciiTexts.{basic_is_ascii}
use Rattle.glacier_replies.proofs.messages.skewed.Goals as goal

pub ascii_text-theirs-requires : goal.ascii_text-theirs-requires
ascii_text-theirs-requires c = rw c.basic_text-theirs.ensures (basic_is_ascii c.args.theirs c.seconds.ensures.bound)

pub ascii_text-ours-requires : goal.ascii_text-ours-requires
ascii_text-ours-requires c = rw c.basic_text-ours.ensures (basic_is_ascii c.args.ours c.seconds-2.ensures.bound)
