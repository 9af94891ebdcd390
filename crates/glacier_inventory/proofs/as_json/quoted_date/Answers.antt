use Rattle.glacier_inventory.proofs.AsciiTexts.{iso_is_ascii}
use Rattle.glacier_inventory.proofs.as_json.quoted_date.Goals as goal

pub ascii_text-requires : goal.ascii_text-requires
ascii_text-requires c = rw c.iso_text-text.ensures (iso_is_ascii c.args.date c.seconds.ensures.bound)
