use Rattle.glacier_replies.proofs.AsciiTexts.{id_is_ascii}
use Rattle.glacier_replies.proofs.objects.id_value.Goals as goal

pub ascii_text-requires : goal.ascii_text-requires
ascii_text-requires c = rw c.text-text.ensures.text (id_is_ascii c.args.id)
