-- The inventory as JSON, as it is written.
use Rattle.std.proofs.Common.{◌≡◌, ℕ, List, [], ◌∷◌, ◌++◌, map, false, codes}
use Rattle.std.proofs.lemmas.List.{append_assoc}
use Rattle.json.specs.Print.{quoted}
use Rattle.serde_json.specs.View.{items_of}
use Rattle.serde_json.specs.Written.{items_text}
use Rattle.serde_json.proofs.OnLiterals.{serde_json_on_literals}
use Rattle.glacier_base.specs.Dates.{iso_of}
use Rattle.glacier_policy.specs.Denials.{arn_of}
use Rattle.glacier_inventory.specs.JsonInventories.{line_data, inventory_json}
use Rattle.glacier_inventory.specs.declared.line.InventoryLine.{InventoryLine}

grouped : (a b c d e f g : List ℕ) → a ++ b ++ c ++ d ++ e ++ f ++ g ≡ a ++ (b ++ (c ++ (d ++ (e ++ (f ++ g)))))
grouped a b c d e f g = simp (append_assoc)

-- what is written from left to right is the inventory
pub inventory_written : (region account vault : List ℕ) (date : ℕ) (lines : List InventoryLine)
    → codes "{\"ArchiveList\":[" ++ items_text false (items_of (map line_data lines)) ++ codes ",\"InventoryDate\":"
    ++ quoted (iso_of date) ++ codes ",\"VaultARN\":" ++ quoted (arn_of region account vault) ++ 125 ∷ []
    ≡ inventory_json region account vault date lines
unfolding inventory_json serde_json_on_literals
inventory_written region account vault date lines =
    grouped (codes "{\"ArchiveList\":[") (items_text false (items_of (map line_data lines))) (codes ",\"InventoryDate\":")
    (quoted (iso_of date)) (codes ",\"VaultARN\":") (quoted (arn_of region account vault)) (125 ∷ [])
