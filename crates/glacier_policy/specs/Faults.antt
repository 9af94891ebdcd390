-- The faults of a text, by where they stand.
use Rattle.std.specs.Prelude.{◌≡◌, ◌<◌, ◌≤◌, ◌⊎◌, ℕ, true, false, List, [], ◌∷◌, ◌++◌, length, All, Option, Some, None, is_some, Result, Ok, Err, codes, if◌then◌else◌}
use Rattle.serde_json.specs.Data.{Data, Items, no_items, item, Members, no_members, member}
use Rattle.serde_json.specs.Find.{get}
use Rattle.glacier_policy.specs.Conditions.{operator_of, is_age_key, days_of, members_in}
use Rattle.glacier_policy.specs.Form.{is_policy}
use Rattle.glacier_policy.specs.Policies.{statements_in, json_of}
use Rattle.glacier_policy.specs.declared.policy.Policy.{Policy}
use Rattle.glacier_policy.specs.declared.policy.PolicyFault.{PolicyFault}
use Rattle.glacier_policy.specs.declared.policy.PolicyFault.TheVariants.{TooLong, NotJson, NotAPolicy, UnknownOperator, UnknownKey, BadNumber}

-- what may be faulty in a policy's form: the name of an operator, or a key under one with its value
pub data Place : Type 0 where
  operator : List ℕ → Place
  condition : List ℕ → Data → Place

-- the fault of a place
abbrev pub fault_at : Place → Option PolicyFault
fault_at (operator name) = if is_some (operator_of name) then None else Some UnknownOperator
fault_at (condition key d) =
    if is_age_key key then if is_some (days_of d) then None else Some BadNumber
    else Some UnknownKey

-- the keys under an operator
abbrev pub key_places : Members → List Place
key_places no_members = []
key_places (member key d ms) = condition key d ∷ key_places ms

-- each operator, and behind it its keys
abbrev pub operator_places : Members → List Place
operator_places no_members = []
operator_places (member name d ms) = (operator name ∷ key_places (members_in d)) ++ operator_places ms

abbrev pub condition_places : Option Data → List Place
condition_places None = []
condition_places (Some d) = operator_places (members_in d)

-- those of each statement's conditions
abbrev pub statement_places : Items → List Place
statement_places no_items = []
statement_places (item d ds) = condition_places (get (codes "Condition") d) ++ statement_places ds

abbrev pub places_of : Option Data → List Place
places_of None = []
places_of (Some d) = statement_places (statements_in d)

-- the places of a policy, in their order
abbrev pub policy_places : Data → List Place
policy_places d = places_of (get (codes "Statement") d)

abbrev pub HasNoFault : List Place → Type 0
HasNoFault places = All (λ place. fault_at place ≡ None) places

-- the first place with a fault has this one
pub record IsFirstFault (places : List Place) (fault : PolicyFault) : Type 0 where
  pub before : List Place
  pub place : Place
  pub behind : List Place
  pub split : places ≡ before ++ place ∷ behind
  pub none_before : HasNoFault before
  pub here : fault_at place ≡ Some fault

-- the text is short enough, and JSON of this value
pub record IsJson (text : List ℕ) (value : Data) : Type 0 where
  pub short : length text ≤ 20_480
  pub json : json_of text ≡ Some value

-- what is answered: a policy where the value has the form and nothing in it a fault, and else the first fault
abbrev pub IsAnswerTo : List ℕ → Result Policy PolicyFault → Type 0
IsAnswerTo text (Ok policy) = (value : Data) × IsJson text value × (is_policy value ≡ true) × HasNoFault (policy_places value)
IsAnswerTo text (Err fault) =
    ((20_480 < length text) × (fault ≡ TooLong (length text)))
    ⊎ ((length text ≤ 20_480) × (json_of text ≡ None) × (fault ≡ NotJson))
    ⊎ ((value : Data) × IsJson text value × (is_policy value ≡ false) × (fault ≡ NotAPolicy))
    ⊎ ((value : Data) × IsJson text value × (is_policy value ≡ true) × IsFirstFault (policy_places value) fault)
