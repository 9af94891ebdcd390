-- The form of a policy as a JSON value (docs/rules/policies.md).
use Rattle.std.specs.Prelude.{ℕ, Bool, true, false, ◌&&◌, ◌||◌, List, Option, Some, None, codes, bytes_eq}
use Rattle.serde_json.specs.Data.{Data, string, array, object, Items, no_items, item, Members, no_members, member}
use Rattle.serde_json.specs.Find.{get}

abbrev pub every_item : (Data → Bool) → Items → Bool
every_item test no_items = true
every_item test (item d ds) = test d && every_item test ds

abbrev pub every_name : (List ℕ → Bool) → Members → Bool
every_name test no_members = true
every_name test (member k d ms) = test k && every_name test ms

abbrev pub every_value : (Data → Bool) → Members → Bool
every_value test no_members = true
every_value test (member k d ms) = test d && every_value test ms

-- a member that must be there
abbrev pub needed : (Data → Bool) → Option Data → Bool
needed test None = false
needed test (Some d) = test d

-- a member that may be there
abbrev pub allowed : (Data → Bool) → Option Data → Bool
allowed test None = true
allowed test (Some d) = test d

abbrev pub is_text : Data → Bool
is_text (string s) = true
is_text _ = false

-- a text or a list of texts
abbrev pub is_texts : Data → Bool
is_texts (string s) = true
is_texts (array ds) = every_item is_text ds
is_texts _ = false

abbrev pub has_items : Items → Bool
has_items no_items = false
has_items (item d ds) = true

-- a text or a list of one or more texts
abbrev pub is_one_or_more : Data → Bool
is_one_or_more (string s) = true
is_one_or_more (array ds) = has_items ds && every_item is_text ds
is_one_or_more _ = false

abbrev pub is_effect : Data → Bool
is_effect (string s) = bytes_eq s (codes "Allow") || bytes_eq s (codes "Deny")
is_effect _ = false

abbrev pub is_principal_name : List ℕ → Bool
is_principal_name k = bytes_eq k (codes "AWS")

-- everybody, or an object whose one member AWS is a text or a list of texts
abbrev pub is_principal : Data → Bool
is_principal (string s) = bytes_eq s (codes "*")
is_principal (object ms) = every_name is_principal_name ms && needed is_texts (get (codes "AWS") (object ms))
is_principal _ = false

abbrev pub is_object : Data → Bool
is_object (object ms) = true
is_object _ = false

-- an object of objects
abbrev pub is_condition : Data → Bool
is_condition (object ms) = every_value is_object ms
is_condition _ = false

abbrev pub is_statement_name : List ℕ → Bool
is_statement_name k =
    bytes_eq k (codes "Effect") || bytes_eq k (codes "Principal") || bytes_eq k (codes "Action") || bytes_eq k (codes "Resource")
    || bytes_eq k (codes "Sid") || bytes_eq k (codes "Condition")

abbrev pub are_statement_members : Data → Bool
are_statement_members d =
    needed is_effect (get (codes "Effect") d)
    && needed is_principal (get (codes "Principal") d)
    && needed is_one_or_more (get (codes "Action") d)
    && needed is_one_or_more (get (codes "Resource") d)
    && allowed is_text (get (codes "Sid") d)
    && allowed is_condition (get (codes "Condition") d)

abbrev pub is_statement : Data → Bool
is_statement (object ms) = every_name is_statement_name ms && are_statement_members (object ms)
is_statement _ = false

-- a statement or a list of one or more
abbrev pub are_statements : Data → Bool
are_statements (array ds) = has_items ds && every_item is_statement ds
are_statements (object ms) = is_statement (object ms)
are_statements _ = false

abbrev pub is_version : Data → Bool
is_version (string s) = bytes_eq s (codes "2012-10-17") || bytes_eq s (codes "2008-10-17")
is_version _ = false

abbrev pub is_policy_name : List ℕ → Bool
is_policy_name k = bytes_eq k (codes "Statement") || bytes_eq k (codes "Version") || bytes_eq k (codes "Id")

abbrev pub are_policy_members : Data → Bool
are_policy_members d =
    needed are_statements (get (codes "Statement") d)
    && allowed is_version (get (codes "Version") d)
    && allowed is_text (get (codes "Id") d)

-- the form of a whole policy
abbrev pub is_policy : Data → Bool
is_policy (object ms) = every_name is_policy_name ms && are_policy_members (object ms)
is_policy _ = false
