-- The conditions of a statement, or the first fault in them.
use Rattle.std.specs.Prelude.{ℕ, Bool, ◌&&◌, ◌++◌, List, [], ◌∷◌, length, Option, Some, None, option_and_then, Result, Ok, Err, codes, bytes_eq, nat_le, nat_lt, if◌then◌else◌}
use Rattle.std.specs.Str.{str_eq_ignore_ascii_case}
use Rattle.serde_json.specs.Data.{Num, unsigned, negative, float, Data, number, string, array, object, Items, no_items, item, Members, no_members, member}
use Rattle.glacier_base.specs.Digits.{number_of}
use Rattle.glacier_policy.specs.declared.policy.Operator.{Operator}
use Rattle.glacier_policy.specs.declared.policy.Operator.TheVariants.{Equals, NotEquals, LessThan, LessThanEquals, GreaterThan, GreaterThanEquals}
use Rattle.glacier_policy.specs.declared.policy.Condition.{Condition}
use Rattle.glacier_policy.specs.declared.policy.PolicyFault.{PolicyFault}
use Rattle.glacier_policy.specs.declared.policy.PolicyFault.TheVariants.{UnknownOperator, UnknownKey, BadNumber}

-- what goes on after a success
abbrev pub on_success : {A B : Type 0} → (A → Result B PolicyFault) → Result A PolicyFault → Result B PolicyFault
on_success next (Ok value) = next value
on_success next (Err fault) = Err fault

abbrev pub operator_of : List ℕ → Option Operator
operator_of name =
    if bytes_eq name (codes "NumericEquals") then Some Equals
    else if bytes_eq name (codes "NumericNotEquals") then Some NotEquals
    else if bytes_eq name (codes "NumericLessThan") then Some LessThan
    else if bytes_eq name (codes "NumericLessThanEquals") then Some LessThanEquals
    else if bytes_eq name (codes "NumericGreaterThan") then Some GreaterThan
    else if bytes_eq name (codes "NumericGreaterThanEquals") then Some GreaterThanEquals
    else None

-- the number that 1 to 18 decimal digits write
abbrev pub days_of_text : List ℕ → Option ℕ
days_of_text text = if nat_le 1 (length text) && nat_le (length text) 18 then number_of (length text) text else None

-- a number in digits alone, below 10^18
abbrev pub days_of_number : Num → Option ℕ
days_of_number (unsigned n) = if nat_lt n 1_000_000_000_000_000_000 then Some n else None
days_of_number (negative z) = None
days_of_number (float x) = None

-- one value
abbrev pub day_of : Data → Option ℕ
day_of (number n) = days_of_number n
day_of (string s) = days_of_text s
day_of _ = None

-- the values of a list, after others
abbrev pub days_after : List ℕ → Items → Option (List ℕ)
days_after before no_items = Some before
days_after before (item d ds) = option_and_then (λ n. days_after (before ++ n ∷ []) ds) (day_of d)

abbrev pub one_or_more : Items → Option (List ℕ)
one_or_more no_items = None
one_or_more (item d ds) = days_after [] (item d ds)

-- one value, or a list of one or more
abbrev pub days_of : Data → Option (List ℕ)
days_of (number n) = option_and_then (λ day. Some (day ∷ [])) (days_of_number n)
days_of (string s) = option_and_then (λ day. Some (day ∷ [])) (days_of_text s)
days_of (array ds) = one_or_more ds
days_of _ = None

abbrev pub is_age_key : List ℕ → Bool
is_age_key key = str_eq_ignore_ascii_case key (codes "glacier:ArchiveAgeInDays")

-- the condition of an operator on these days
abbrev pub condition_on : Operator → Option (List ℕ) → Result Condition PolicyFault
condition_on operator None = Err BadNumber
condition_on operator (Some days) = Ok (record { operator = operator; days = days })

-- the condition under a key of an operator
abbrev pub condition_of : Operator → List ℕ → Data → Result Condition PolicyFault
condition_of operator key d = if is_age_key key then condition_on operator (days_of d) else Err UnknownKey

-- the conditions under an operator's keys, after others
abbrev pub keys_after : Operator → List Condition → Members → Result (List Condition) PolicyFault
keys_after operator before no_members = Ok before
keys_after operator before (member key d ms) =
    on_success (λ condition. keys_after operator (before ++ condition ∷ []) ms) (condition_of operator key d)

-- the members of an object
abbrev pub members_in : Data → Members
members_in (object ms) = ms
members_in _ = no_members

abbrev pub under_operator : Option Operator → List Condition → Data → Result (List Condition) PolicyFault
under_operator None before d = Err UnknownOperator
under_operator (Some operator) before d = keys_after operator before (members_in d)

-- the conditions under operators, after others
abbrev pub operators_after : List Condition → Members → Result (List Condition) PolicyFault
operators_after before no_members = Ok before
operators_after before (member name d ms) =
    on_success (λ conditions. operators_after conditions ms) (under_operator (operator_of name) before d)

-- the conditions of a statement
abbrev pub conditions_of : Option Data → Result (List Condition) PolicyFault
conditions_of None = Ok []
conditions_of (Some d) = operators_after [] (members_in d)
