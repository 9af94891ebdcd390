use Rattle.glacier_replies.proofs.NameLemmas.{description_is_ascii}
use Rattle.glacier_replies.proofs.ascii.description_text.Goals as goal

pub ascii_text-requires : goal.ascii_text-requires
ascii_text-requires c = rw c.bytes.ensures.bytes (description_is_ascii _ c.bytes.ensures.rule)
