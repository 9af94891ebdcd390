use Rattle.glacier_inventory.specs.CsvInventories.{line_text}
use Rattle.glacier_inventory.proofs.as_csv.line_row.Goals as goal

pub returns : goal.returns
unfolding line_text
returns c =
    rw (c.as_slice.ensures, c.text.ensures.text, c.bytes.ensures.bytes, c.as_slice-2.ensures, c.iso_text.ensures, c.as_bytes.ensures.value, c.in_ok-size.ensures.ok, c.as_slice-3.ensures, c.text-2.ensures.text)
    at c.row.ensures
