-- The code of a lock's policy, by which a proof tells two of them apart.
use Rattle.std.specs.Prelude.{◌≡◌, ℕ, zero, suc, Bool, List, refl}
use Rattle.std.specs.Coded.{Coded, code_by, coded×, coded_ℕ, coded_bool, coded_list}
use Rattle.glacier_policy.specs.declared.policy.Condition.{Condition}
use Rattle.glacier_policy.specs.declared.policy.Operator.{Operator}
use Rattle.glacier_policy.specs.declared.policy.Operator.TheVariants as operators
use Rattle.glacier_policy.specs.declared.policy.Policy.{Policy}
use Rattle.glacier_policy.specs.declared.policy.Statement.{Statement}

pub bytes_code : Coded (List ℕ)
bytes_code = coded_list coded_ℕ

abbrev operator_number : Operator → ℕ
operator_number operators.Equals = 0
operator_number operators.NotEquals = 1
operator_number operators.LessThan = 2
operator_number operators.LessThanEquals = 3
operator_number operators.GreaterThan = 4
operator_number operators.GreaterThanEquals = 5

abbrev operator_of : ℕ → Operator
operator_of zero = operators.Equals
operator_of (suc zero) = operators.NotEquals
operator_of (suc (suc zero)) = operators.LessThan
operator_of (suc (suc (suc zero))) = operators.LessThanEquals
operator_of (suc (suc (suc (suc zero)))) = operators.GreaterThan
operator_of _ = operators.GreaterThanEquals

operator_back : (o : Operator) → operator_of (operator_number o) ≡ o
operator_back operators.Equals = refl
operator_back operators.NotEquals = refl
operator_back operators.LessThan = refl
operator_back operators.LessThanEquals = refl
operator_back operators.GreaterThan = refl
operator_back operators.GreaterThanEquals = refl

operator_code : Coded Operator
operator_code = code_by ℕ coded_ℕ operator_number operator_of operator_back

condition_code : Coded Condition
condition_code =
    code_by (Operator × List ℕ) (coded× operator_code (coded_list coded_ℕ))
    (λ c. (c.operator, c.days))
    (λ p. record { operator = p.0; days = p.1 })
    (λ _. refl)

statement_code : Coded Statement
statement_code =
    code_by (Bool × (List (List ℕ) × (List (List ℕ) × (List (List ℕ) × List Condition)))) (coded× coded_bool (coded× (coded_list bytes_code) (coded× (coded_list bytes_code) (coded× (coded_list bytes_code) (coded_list condition_code)))))
    (λ s. (s.is_deny, (s.principals, (s.actions, (s.resources, s.conditions)))))
    (λ p. record { is_deny = p.0; principals = p.1.0; actions = p.1.1.0; resources = p.1.1.1.0; conditions = p.1.1.1.1 })
    (λ _. refl)

pub policy_code : Coded Policy
policy_code =
    code_by (List Statement) (coded_list statement_code)
    (λ x. x.statements)
    (λ p. record { statements = p })
    (λ _. refl)
