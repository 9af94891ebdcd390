use Rattle.glacier_replies.proofs.AsciiTexts.{iso_is_ascii}
use Rattle.glacier_replies.proofs.objects.date_value.Goals as goal

pub ascii_text-requires : goal.ascii_text-requires
ascii_text-requires c = rw c.iso_text-text.ensures (iso_is_ascii c.args.date c.seconds.ensures.bound)
