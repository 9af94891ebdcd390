-- The members of a body that is a JSON object.
use Rattle.std.specs.Prelude.{ℕ, List, Option, Some, None, option_and_then, is_some, if◌then◌else◌}
use Rattle.std.specs.Str.{is_utf8}
use Rattle.serde_json.specs.Data.{Data, null}
use Rattle.serde_json.specs.Find.{get, as_object}
use Rattle.serde_json.specs.Read.{read}

-- the value, if it is an object
abbrev pub the_object : Data → Option Data
the_object value = if is_some (as_object value) then Some value else None

-- the JSON object that a body is, if it is one
abbrev pub object_of : List ℕ → Option Data
object_of body = if is_utf8 body then option_and_then the_object (read body) else None

-- the value, unless it is null
abbrev pub unless_null : Data → Option Data
unless_null null = None
unless_null value = Some value

-- the member of a name that is there: one that is null isn't
abbrev pub present : List ℕ → Data → Option Data
present name body = option_and_then unless_null (get name body)
