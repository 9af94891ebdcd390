use Rattle.std.proofs.Common.{◌≡◌, ◌++◌, drop, flat_map}
use Rattle.glacier_inventory.specs.CsvInventories.{line_text}
use Rattle.glacier_inventory.proofs.as_csv.put_rows.Given as goal

abbrev pub invariant-loop-line : goal.invariant-loop-line
invariant-loop-line l =
    l.text ++ flat_map line_text (drop l.line-index l.lines) ≡ l.initial.text ++ flat_map line_text l.lines
