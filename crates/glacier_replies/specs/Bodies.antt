-- The JSON bodies, as serde_json prints them without spaces.
use Rattle.std.specs.Prelude.{ℕ, List, [], ◌∷◌, ◌++◌, codes, decimal}
use Rattle.std.specs.Borrow.{Bor}
use Rattle.std.specs.FinMap as map
use Rattle.hex.specs.Hex.{encode_lower}
use Rattle.serde_json.specs.Data.{Data, null, boolean, number, unsigned, string, object, Members, no_members, put}
use Rattle.glacier_base.specs.Dates.{iso_of}
use Rattle.glacier_base.specs.Ids.{id_text}
use Rattle.glacier_vault.specs.declared.state.VaultState.{VaultState}
use Rattle.glacier_replies.specs.declared.objects.Part.{Part}
use Rattle.glacier_replies.specs.declared.objects.Part.TheVariants.{Text, Number, Flag, Date, Digest, Id, Range, Null}

-- a member's name and its value
abbrev pub Pair : Type 0
Pair = List ℕ × Data

-- the members with more of them, each in its place by the order of the names
abbrev pub put_all : List Pair → Members → Members
put_all [] members = members
put_all (pair ∷ pairs) members = put_all pairs (put pair.0 pair.1 members)

-- the object of these members
unfoldable pub object_of : List Pair → Data
object_of pairs = object (put_all pairs no_members)

-- the value of a part
abbrev pub part_data : Part → Data
part_data (Text text) = string text.now
part_data (Number n) = number (unsigned n)
part_data (Flag flag) = boolean flag
part_data (Date date) = string (iso_of date.now)
part_data (Digest digest) = string (encode_lower digest.now)
part_data (Id id) = string (id_text id)
part_data (Range first last) = string (decimal first ++ codes "-" ++ decimal last)
part_data Null = null

abbrev pub pair_of : Bor (List ℕ) × Part → Pair
pair_of member = (member.0.now, part_data member.1)

-- the body of a refusal
abbrev pub refusal_data : List ℕ → List ℕ → Data
refusal_data code message =
    object_of (
    (codes "code", string code)
    ∷ (codes "message", string message)
    ∷ (codes "type", string (codes "Client"))
    ∷ [])

-- the description of a vault, its date being a text, with the number of its archives and their bytes
abbrev pub dated_vault_data : List ℕ → ℕ → ℕ → List ℕ → List ℕ → Data
dated_vault_data created archives bytes arn name =
    object_of (
    (codes "CreationDate", string created)
    ∷ (codes "LastInventoryDate", null)
    ∷ (codes "NumberOfArchives", number (unsigned archives))
    ∷ (codes "SizeInBytes", number (unsigned bytes))
    ∷ (codes "VaultARN", string arn)
    ∷ (codes "VaultName", string name)
    ∷ [])

-- the description of a vault
abbrev pub vault_data : VaultState → List ℕ → List ℕ → Data
vault_data vault arn name = dated_vault_data (iso_of vault.created) (map.len vault.archives) vault.bytes arn name
