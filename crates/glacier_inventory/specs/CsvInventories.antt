-- The inventory as comma-separated values (RFC 4180), a line feed ending each row.
use Rattle.std.specs.Prelude.{ℕ, List, [], ◌∷◌, ◌++◌, codes, decimal, flat_map}
use Rattle.csv.specs.Writing.{default_writer, row_text}
use Rattle.hex.specs.Hex.{encode_lower}
use Rattle.glacier_base.specs.Dates.{iso_of}
use Rattle.glacier_base.specs.Ids.{id_text}
use Rattle.glacier_inventory.specs.declared.line.InventoryLine.{InventoryLine}

-- the names of the columns
abbrev pub header_fields : List (List ℕ)
header_fields =
    codes "ArchiveId" ∷ codes "ArchiveDescription" ∷ codes "CreationDate" ∷ codes "Size" ∷ codes "SHA256TreeHash" ∷ []

-- what the columns say of an archive
abbrev pub line_fields : InventoryLine → List (List ℕ)
line_fields line =
    id_text line.id ∷ line.description ∷ iso_of line.created ∷ decimal line.size ∷ encode_lower line.tree ∷ []

-- the row of the columns' names
unfoldable pub header_text : List ℕ
header_text = row_text default_writer header_fields

-- the row of an archive
unfoldable pub line_text : InventoryLine → List ℕ
line_text line = row_text default_writer (line_fields line)

-- the header, and a row for each line
abbrev pub inventory_csv : List InventoryLine → List ℕ
inventory_csv lines = header_text ++ flat_map line_text lines
