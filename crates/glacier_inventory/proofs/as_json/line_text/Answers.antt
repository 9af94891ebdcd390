use Rattle.glacier_inventory.proofs.AsciiTexts.{hex_is_ascii, iso_is_ascii, id_is_ascii}
use Rattle.glacier_inventory.proofs.as_json.line_text.Goals as goal

pub ascii_text-requires : goal.ascii_text-requires
ascii_text-requires c = rw c.text-id.ensures.text (id_is_ascii c.args.line.now.id)

pub ascii_text-requires-2 : goal.ascii_text-requires-2
ascii_text-requires-2 c = rw c.iso_text-created.ensures (iso_is_ascii c.args.line.now.created c.seconds.ensures.bound)

pub ascii_text-requires-3 : goal.ascii_text-requires-3
ascii_text-requires-3 c = rw c.text-tree.ensures.text (hex_is_ascii c.args.line.now.tree)
