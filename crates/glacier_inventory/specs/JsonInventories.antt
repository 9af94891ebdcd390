-- The inventory as JSON, printed without spaces.
use Rattle.std.specs.Prelude.{ℕ, List, codes, map}
use Rattle.hex.specs.Hex.{encode_lower}
use Rattle.serde_json.specs.Data.{Data, number, unsigned, string, array, object, no_members, member}
use Rattle.serde_json.specs.View.{items_of}
use Rattle.serde_json.specs.Written.{compact_text}
use Rattle.glacier_base.specs.Dates.{iso_of}
use Rattle.glacier_base.specs.Ids.{id_text}
use Rattle.glacier_policy.specs.Denials.{arn_of}
use Rattle.glacier_inventory.specs.declared.line.InventoryLine.{InventoryLine}

-- what is said of an archive, whose id, date and tree hash are these texts
abbrev pub dated_line_data : List ℕ → List ℕ → List ℕ → InventoryLine → Data
dated_line_data id created tree line =
    object (member (codes "ArchiveDescription") (string line.description)
    (member (codes "ArchiveId") (string id)
    (member (codes "CreationDate") (string created)
    (member (codes "SHA256TreeHash") (string tree)
    (member (codes "Size") (number (unsigned line.size)) no_members)))))

-- what is said of an archive
abbrev pub line_data : InventoryLine → Data
line_data line = dated_line_data (id_text line.id) (iso_of line.created) (encode_lower line.tree) line

-- the whole, of the vault in its region and account, for a moment
abbrev pub inventory_data : List ℕ → List ℕ → List ℕ → ℕ → List InventoryLine → Data
inventory_data region account vault date lines =
    object (member (codes "ArchiveList") (array (items_of (map line_data lines)))
    (member (codes "InventoryDate") (string (iso_of date))
    (member (codes "VaultARN") (string (arn_of region account vault)) no_members)))

-- its text
unfoldable pub inventory_json : List ℕ → List ℕ → List ℕ → ℕ → List InventoryLine → List ℕ
inventory_json region account vault date lines = compact_text (inventory_data region account vault date lines)
