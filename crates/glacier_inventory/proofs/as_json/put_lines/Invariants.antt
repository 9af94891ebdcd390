use Rattle.std.proofs.Common.{◌≡◌, ◌++◌, drop, map, false}
use Rattle.serde_json.specs.View.{items_of}
use Rattle.serde_json.specs.Written.{items_text}
use Rattle.glacier_inventory.specs.JsonInventories.{line_data}
use Rattle.glacier_inventory.proofs.as_json.put_lines.Given as goal

abbrev pub invariant-loop-line : goal.invariant-loop-line
invariant-loop-line l =
    l.text ++ items_text l.is_later (items_of (map line_data (drop l.line-index l.lines)))
    ≡ l.initial.text ++ items_text false (items_of (map line_data l.lines))
