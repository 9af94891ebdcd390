-- What a text is as a policy.
use Rattle.std.specs.Prelude.{ℕ, Bool, false, List, [], ◌∷◌, ◌++◌, length, Option, Some, None, Result, Ok, Err, codes, bytes_eq, nat_lt, if◌then◌else◌}
use Rattle.std.specs.Str.{is_utf8}
use Rattle.serde_json.specs.Data.{Data, string, array, object, Items, no_items, item}
use Rattle.serde_json.specs.Find.{get}
use Rattle.serde_json.specs.Read.{read}
use Rattle.glacier_policy.specs.Conditions.{on_success, conditions_of}
use Rattle.glacier_policy.specs.Form.{is_policy}
use Rattle.glacier_policy.specs.Texts.{texts_of}
use Rattle.glacier_policy.specs.declared.policy.Condition.{Condition}
use Rattle.glacier_policy.specs.declared.policy.Statement.{Statement}
use Rattle.glacier_policy.specs.declared.policy.Policy.{Policy}
use Rattle.glacier_policy.specs.declared.policy.PolicyFault.{PolicyFault}
use Rattle.glacier_policy.specs.declared.policy.PolicyFault.TheVariants.{TooLong, NotJson, NotAPolicy}

-- everybody, or the names under AWS
abbrev pub principals_in : Data → List (List ℕ)
principals_in (string s) = s ∷ []
principals_in (object ms) = texts_of (get (codes "AWS") (object ms))
principals_in _ = []

abbrev pub principals_of : Option Data → List (List ℕ)
principals_of None = []
principals_of (Some d) = principals_in d

abbrev pub is_deny_text : Data → Bool
is_deny_text (string s) = bytes_eq s (codes "Deny")
is_deny_text _ = false

abbrev pub is_deny : Option Data → Bool
is_deny None = false
is_deny (Some d) = is_deny_text d

-- a statement with these conditions
abbrev pub statement_with : Data → List Condition → Statement
statement_with d conditions = record {
  is_deny = is_deny (get (codes "Effect") d);
  principals = principals_of (get (codes "Principal") d);
  actions = texts_of (get (codes "Action") d);
  resources = texts_of (get (codes "Resource") d);
  conditions = conditions;
}

-- what a value in the form of a statement says, or the first fault in its conditions
abbrev pub statement_of : Data → Result Statement PolicyFault
statement_of d = on_success (λ conditions. Ok (statement_with d conditions)) (conditions_of (get (codes "Condition") d))

-- the statements of a list, after others
abbrev pub statements_after : List Statement → Items → Result (List Statement) PolicyFault
statements_after before no_items = Ok before
statements_after before (item d ds) = on_success (λ statement. statements_after (before ++ statement ∷ []) ds) (statement_of d)

-- a list's values, or the one value
abbrev pub statements_in : Data → Items
statements_in (array ds) = ds
statements_in (object ms) = item (object ms) no_items
statements_in _ = no_items

abbrev pub statements_of : Option Data → Result (List Statement) PolicyFault
statements_of None = Ok []
statements_of (Some d) = statements_after [] (statements_in d)

abbrev pub policy_with : List Statement → Policy
policy_with statements = record { statements = statements }

-- a value that is to be a policy: its form is asked of the whole before anything else
abbrev pub policy_in : Data → Result Policy PolicyFault
policy_in d =
    if is_policy d then on_success (λ statements. Ok (policy_with statements)) (statements_of (get (codes "Statement") d))
    else Err NotAPolicy

abbrev pub policy_at : Option Data → Result Policy PolicyFault
policy_at None = Err NotJson
policy_at (Some d) = policy_in d

-- the JSON value that a text is
abbrev pub json_of : List ℕ → Option Data
json_of text = if is_utf8 text then read text else None

-- the policy that a text is, or its first fault
unfoldable pub policy_of : List ℕ → Result Policy PolicyFault
policy_of text = if nat_lt 20_480 (length text) then Err (TooLong (length text)) else policy_at (json_of text)
