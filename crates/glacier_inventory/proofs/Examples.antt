-- Inventories that are written out.
use Rattle.std.proofs.Common.{◌≡◌, ℕ, List, [], ◌∷◌, ◌++◌, ap, refl, codes, lit<}
use Rattle.std.proofs.lemmas.Fmt.{decimal_digit}
use Rattle.csv.specs.Writing.{default_writer, escaped, fields_text, is_blank, row_text}
use Rattle.hex.specs.Hex.{encode_with}
use Rattle.serde_json.proofs.OnLiterals.{serde_json_on_literals}
use Rattle.glacier_base.specs.Calendar.{civil_of, year_from, month_from}
use Rattle.glacier_base.specs.Digits.{decimals}
use Rattle.glacier_base.specs.declared.id.IdKind.TheVariants.{Archive}
use Rattle.glacier_inventory.specs.CsvInventories.{header_text, line_text, inventory_csv}
use Rattle.glacier_inventory.specs.JsonInventories.{inventory_json}
use Rattle.glacier_inventory.specs.declared.line.InventoryLine.{InventoryLine}

-- the SHA-256 digest of `abc` (FIPS 180-4)
abbrev abc_digest : List ℕ
abc_digest =
    186 ∷ 120 ∷ 22 ∷ 191 ∷ 143 ∷ 1 ∷ 207 ∷ 234 ∷ 65 ∷ 65 ∷ 64 ∷ 222 ∷ 93 ∷ 174 ∷ 34 ∷ 35 ∷
    176 ∷ 3 ∷ 97 ∷ 163 ∷ 150 ∷ 23 ∷ 122 ∷ 156 ∷ 180 ∷ 16 ∷ 255 ∷ 97 ∷ 242 ∷ 0 ∷ 21 ∷ 173 ∷ []

-- an archive of these three bytes
abbrev abc : InventoryLine
abc = record {
  id = record { kind = Archive; number = 0 };
  size = 3;
  created = 1_337_905_493;
  description = codes "a, \"b\"";
  tree = abc_digest;
}

csv_of_none : inventory_csv [] ≡ codes "ArchiveId,ArchiveDescription,CreationDate,Size,SHA256TreeHash\n"
unfolding header_text fields_text is_blank
csv_of_none = refl

csv_row : line_text abc
    ≡ codes "a00000000000000000000,\"a, \"\"b\"\"\",2012-05-25T00:24:53.000Z,3,ba7816bf8f01cfea414140de5dae2223b00361a396177a9cb410ff61f20015ad\n"
unfolding line_text escaped fields_text is_blank civil_of year_from month_from decimals encode_with
csv_row =
    ap (λ (size : List ℕ). row_text default_writer (codes "a00000000000000000000" ∷ abc.description ∷ codes "2012-05-25T00:24:53.000Z" ∷ size ∷ codes "ba7816bf8f01cfea414140de5dae2223b00361a396177a9cb410ff61f20015ad" ∷ []))
    (decimal_digit 3 (lit< tt))

json_of_one : inventory_json (codes "us-east-1") (codes "111122223333") (codes "examplevault") 1_337_905_793 (abc ∷ [])
    ≡ codes "{\"ArchiveList\":[{\"ArchiveDescription\":\"a, \\\"b\\\"\",\"ArchiveId\":\"a00000000000000000000\",\"CreationDate\":\"2012-05-25T00:24:53.000Z\",\"SHA256TreeHash\":\"ba7816bf8f01cfea414140de5dae2223b00361a396177a9cb410ff61f20015ad\",\"Size\":3}],\"InventoryDate\":\"2012-05-25T00:29:53.000Z\",\"VaultARN\":\"arn:aws:glacier:us-east-1:111122223333:vaults/examplevault\"}"
unfolding inventory_json serde_json_on_literals civil_of year_from month_from decimals encode_with
json_of_one =
    ap (λ (size : List ℕ). codes "{\"ArchiveList\":[{\"ArchiveDescription\":\"a, \\\"b\\\"\",\"ArchiveId\":\"a00000000000000000000\",\"CreationDate\":\"2012-05-25T00:24:53.000Z\",\"SHA256TreeHash\":\"ba7816bf8f01cfea414140de5dae2223b00361a396177a9cb410ff61f20015ad\",\"Size\":" ++ (size ++ codes "}" ++ codes "]" ++ codes ",\"InventoryDate\":\"2012-05-25T00:29:53.000Z\",\"VaultARN\":\"arn:aws:glacier:us-east-1:111122223333:vaults/examplevault\"}"))
    (decimal_digit 3 (lit< tt))
