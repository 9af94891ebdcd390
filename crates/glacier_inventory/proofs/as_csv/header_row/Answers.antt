use Rattle.std.proofs.Common.{rules}
use Rattle.csv.specs.Writing.{fields_text, is_blank}
use Rattle.glacier_inventory.specs.CsvInventories.{header_text}
use Rattle.glacier_inventory.proofs.as_csv.header_row.Goals as goal

pub returns : goal.returns
unfolding header_text fields_text is_blank
returns c = search rules
