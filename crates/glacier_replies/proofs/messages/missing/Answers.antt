use Rattle.glacier_replies.proofs.AsciiTexts.{id_is_ascii}
use Rattle.glacier_replies.proofs.messages.missing.Goals as goal

pub ascii_text-id-requires : goal.ascii_text-id-requires
ascii_text-id-requires c = rw c.text-id.ensures.text (id_is_ascii (record { kind = c.args.kind; number = c.args.number }))
