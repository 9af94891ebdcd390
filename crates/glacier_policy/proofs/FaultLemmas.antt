-- The chain of conditions finds the first faulty place.
use Rattle.std.proofs.Common.{◌≡◌, inl, inr, ℕ, List, [], ◌∷◌, ◌++◌, Bool, true, false, cond, length, Option, Some, None, Result, Ok, Err, refl, sym, ap, ◌∙◌, append_assoc, arith}
use Rattle.std.specs.Prelude.{codes, nat_lt}
use Rattle.std.proofs.lemmas.Bool.{ltb-true, ltb-false}
use Rattle.std.proofs.lemmas.List.Elements.{All-append, All-cons}
use Rattle.serde_json.specs.Data.{Data, Items, no_items, item, Members, no_members, member}
use Rattle.serde_json.specs.Find.{get}
use Rattle.glacier_policy.specs.Conditions.{on_success, operator_of, is_age_key, days_of, condition_on, condition_of, keys_after, members_in, under_operator, operators_after, conditions_of}
use Rattle.glacier_policy.specs.Faults.{Place, operator, condition, fault_at, key_places, operator_places, condition_places, statement_places, places_of, policy_places, HasNoFault, IsFirstFault, IsJson, IsAnswerTo}
use Rattle.glacier_policy.specs.Form.{is_policy}
use Rattle.glacier_policy.specs.Policies.{statement_with, statement_of, statements_after, statements_in, statements_of, policy_with, policy_at, policy_of, json_of}
use Rattle.glacier_policy.specs.declared.policy.Condition.{Condition}
use Rattle.glacier_policy.specs.declared.policy.Operator.{Operator}
use Rattle.glacier_policy.specs.declared.policy.Policy.{Policy}
use Rattle.glacier_policy.specs.declared.policy.PolicyFault.{PolicyFault}
use Rattle.glacier_policy.specs.declared.policy.PolicyFault.TheVariants.{TooLong, NotAPolicy, UnknownOperator, UnknownKey, BadNumber}
use Rattle.glacier_policy.specs.declared.policy.Statement.{Statement}

-- a result is a success where no place has a fault, and else the first fault
abbrev pub Finds : {A : Type 0} → List Place → Result A PolicyFault → Type 0
Finds places (Ok value) = HasNoFault places
Finds places (Err fault) = IsFirstFault places fault

none : HasNoFault []
none k d lt = absurd (omega arith)

alone : (place : Place) (fault : PolicyFault) → fault_at place ≡ Some fault → IsFirstFault (place ∷ []) fault
alone place fault here = record { before = []; place = place; behind = []; split = refl; none_before = none; here = here }

-- what stands behind changes no first fault
before_others : (places others : List Place) (fault : PolicyFault) → IsFirstFault places fault → IsFirstFault (places ++ others) fault
before_others places others fault first = record {
  before = first.before;
  place = first.place;
  behind = first.behind ++ others;
  split = ap (λ (l : List Place). l ++ others) first.split ∙ append_assoc first.before (first.place ∷ first.behind) others;
  none_before = first.none_before;
  here = first.here;
}

-- places without a fault change none behind them
behind_others : {A : Type 0} (others places : List Place) (r : Result A PolicyFault) → HasNoFault others → Finds places r → Finds (others ++ places) r
behind_others others places (Ok value) clear found = All-append (λ place. fault_at place ≡ None) others places clear found
behind_others others places (Err fault) clear first = record {
  before = others ++ first.before;
  place = first.place;
  behind = first.behind;
  split = ap (λ (l : List Place). others ++ l) first.split ∙ sym (append_assoc others first.before (first.place ∷ first.behind));
  none_before = All-append (λ place. fault_at place ≡ None) others first.before clear first.none_before;
  here = first.here;
}

-- one step and then the next
goes_on : {A B : Type 0} (places others : List Place) (r : Result A PolicyFault) (next : A → Result B PolicyFault)
    → Finds places r → ((value : A) → Finds others (next value)) → Finds (places ++ others) (on_success next r)
goes_on places others (Ok value) next clear found = behind_others places others (next value) clear (found value)
goes_on places others (Err fault) next first found = before_others places others fault first

-- what is made of a success
made : {A B : Type 0} (places : List Place) (r : Result A PolicyFault) (make : A → B) → Finds places r → Finds places (on_success (λ value. Ok (make value)) r)
made places (Ok value) make clear = clear
made places (Err fault) make first = first

condition_finds : (o : Operator) (key : List ℕ) (d : Data) → Finds (condition key d ∷ []) (condition_of o key d)
condition_finds o key d = at (is_age_key key) (days_of d) refl refl where
  at : (b : Bool) (days : Option (List ℕ)) → is_age_key key ≡ b → days_of d ≡ days → Finds (condition key d ∷ []) (cond b (condition_on o days) (Err UnknownKey))
  at false days is found = alone (condition key d) UnknownKey (rw is refl)
  at true None is found = alone (condition key d) BadNumber (rw (is, found) refl)
  at true (Some days) is found = All-cons (λ place. fault_at place ≡ None) (condition key d) [] (rw (is, found) refl) none

keys_find : (o : Operator) (before : List Condition) (ms : Members) → Finds (key_places ms) (keys_after o before ms)
keys_find o before no_members = none
keys_find o before (member key d ms) =
    goes_on (condition key d ∷ []) (key_places ms) (condition_of o key d) (λ c. keys_after o (before ++ c ∷ []) ms) (condition_finds o key d) (λ c. keys_find o (before ++ c ∷ []) ms)

operator_finds : (name : List ℕ) (before : List Condition) (d : Data) → Finds (operator name ∷ key_places (members_in d)) (under_operator (operator_of name) before d)
operator_finds name before d = at (operator_of name) refl where
  at : (o : Option Operator) → operator_of name ≡ o → Finds (operator name ∷ key_places (members_in d)) (under_operator o before d)
  at None is = before_others (operator name ∷ []) (key_places (members_in d)) UnknownOperator (alone (operator name) UnknownOperator (rw is refl))
  at (Some o) is =
      behind_others (operator name ∷ []) (key_places (members_in d)) (keys_after o before (members_in d))
      (All-cons (λ place. fault_at place ≡ None) (operator name) [] (rw is refl) none)
      (keys_find o before (members_in d))

operators_find : (before : List Condition) (ms : Members) → Finds (operator_places ms) (operators_after before ms)
operators_find before no_members = none
operators_find before (member name d ms) =
    goes_on (operator name ∷ key_places (members_in d)) (operator_places ms) (under_operator (operator_of name) before d) (λ cs. operators_after cs ms) (operator_finds name before d) (λ cs. operators_find cs ms)

conditions_find : (member : Option Data) → Finds (condition_places member) (conditions_of member)
conditions_find None = none
conditions_find (Some d) = operators_find [] (members_in d)

statements_find : (before : List Statement) (ds : Items) → Finds (statement_places ds) (statements_after before ds)
statements_find before no_items = none
statements_find before (item d ds) =
    goes_on (condition_places (get (codes "Condition") d)) (statement_places ds) (statement_of d) (λ s. statements_after (before ++ s ∷ []) ds)
    (made (condition_places (get (codes "Condition") d)) (conditions_of (get (codes "Condition") d)) (statement_with d) (conditions_find (get (codes "Condition") d)))
    (λ s. statements_find (before ++ s ∷ []) ds)

policy_finds : (member : Option Data) → Finds (places_of member) (statements_of member)
policy_finds None = none
policy_finds (Some d) = statements_find [] (statements_in d)

module _ (text : List ℕ) where
  found_answers : (d : Data) → IsJson text d → is_policy d ≡ true → (r : Result Policy PolicyFault) → Finds (policy_places d) r → IsAnswerTo text r
  found_answers d json form (Ok policy) clear = (d, json, form, clear)
  found_answers d json form (Err fault) first = inr (inr (inr (d, json, form, first)))

  value_answers : (d : Data) → IsJson text d → IsAnswerTo text (policy_at (Some d))
  value_answers d json = at (is_policy d) refl where
    at : (b : Bool) → is_policy d ≡ b → IsAnswerTo text (cond b (on_success (λ all. Ok (policy_with all)) (statements_of (get (codes "Statement") d))) (Err NotAPolicy))
    at false is = inr (inr (inl (d, json, is, refl)))
    at true is = found_answers d json is _ (made (policy_places d) (statements_of (get (codes "Statement") d)) policy_with (policy_finds (get (codes "Statement") d)))

  pub policy_answers : IsAnswerTo text (policy_of text)
  unfolding policy_of
  policy_answers = at (nat_lt 20_480 (length text)) (json_of text) refl refl where
    at : (b : Bool) (o : Option Data) → nat_lt 20_480 (length text) ≡ b → json_of text ≡ o → IsAnswerTo text (cond b (Err (TooLong (length text))) (policy_at o))
    at true o is json = inl (ltb-true 20_480 (length text) is, refl)
    at false None is json = inr (inl (ltb-false 20_480 (length text) is, json, refl))
    at false (Some d) is json = value_answers d (record { short = ltb-false 20_480 (length text) is; json = json })
