-- Fields, and their values in canonical form.
use Rattle.std.specs.Prelude.{ℕ, Bool, true, false, List, [], ◌∷◌, ◌++◌, map, codes, if◌then◌else◌, ◌==◌, ◌&&◌}
use Rattle.std.specs.List.{flat_map, join_with_byte}
use Rattle.httparse.specs.Grammar.{trim_ows}
use Rattle.glacier_http.specs.Fields.{values_of}
use Rattle.glacier_http.specs.declared.reply.Field.{Field}

-- each run of spaces as one, where a space stands before the text or none
abbrev pub squeezed : Bool → List ℕ → List ℕ
squeezed spaced [] = []
squeezed spaced (b ∷ text) =
    if spaced && (b == 32) then squeezed true text else b ∷ squeezed (b == 32) text

-- a value without the blanks around it, in which each run of spaces is one space
abbrev pub canonical_value : List ℕ → List ℕ
canonical_value value = squeezed false (trim_ows value)

-- the value, behind a comma where another stands before it
abbrev pub next_value : Bool → List ℕ → List ℕ
next_value comma value = if comma then 44 ∷ canonical_value value else canonical_value value

-- the values of the fields with this name, between commas
abbrev pub value_text : List ℕ → List (List ℕ × List ℕ) → List ℕ
value_text name fields = join_with_byte 44 (map canonical_value (values_of name fields))

-- the line of a name
abbrev pub field_text : List (List ℕ × List ℕ) → List ℕ → List ℕ
field_text fields name = name ++ codes ":" ++ value_text name fields ++ codes "\n"

-- the lines of the signed names
abbrev pub field_texts : List (List ℕ × List ℕ) → List (List ℕ) → List ℕ
field_texts fields names = flat_map (field_text fields) names

-- a field as its name and its value
abbrev pub pair_of_field : Field → List ℕ × List ℕ
pair_of_field field = (field.name, field.value)

-- fields as their names and values
abbrev pub pairs_of_fields : List Field → List (List ℕ × List ℕ)
pairs_of_fields fields = map pair_of_field fields

-- the names of fields
abbrev pub names_of : List (List ℕ × List ℕ) → List (List ℕ)
names_of fields = map (λ field. field.0) fields
