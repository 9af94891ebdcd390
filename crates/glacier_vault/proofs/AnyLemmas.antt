-- Whether a value of a map passes a test, after a change of the map.
use Rattle.std.specs.Prelude.{◌≡◌, ℕ, Bool, true, false, cond, ◌||◌, List, [], ◌∷◌, Option, Some, None}
use Rattle.std.specs.Cmp.{IsTotalOrder, eq_by_cmp_equiv}
use Rattle.std.specs.FinMap as map
use Rattle.std.specs.List.{list_any}
use Rattle.std.specs.Ordering.{eq_by_cmp}
use Rattle.std.specs.declared.cmp.Ordering.{Ordering}
use Rattle.std.proofs.Common.{◌∙◌, ap, ap₂, sym, refl, arith}
use Rattle.std.proofs.lemmas.Bool.{le-leb}
use Rattle.glacier_base.specs.Maps.{changed_at}
use Rattle.glacier_vault.specs.Due.{soonest, has_come}
use Rattle.glacier_vault.proofs.SoonerLemmas.{has_come-sooner, sooner-none}
use Rattle.glacier_vault.proofs.SoonestLemmas.{soonest-empty, soonest-missing, soonest-changed_at}

-- a moment that has come where a test passes
abbrev flag : Bool → Option ℕ
flag b = cond b (Some 0) None

has_come-flag : (b : Bool) → has_come 0 (flag b) ≡ b
has_come-flag true = le-leb 0 0 (omega arith)
has_come-flag false = refl

any_is_soonest : {X : Type 0} (test : X → Bool) (xs : List X) → list_any test xs ≡ has_come 0 (soonest (λ x. flag (test x)) xs)
any_is_soonest test [] = refl
any_is_soonest test (x ∷ xs) =
    ap₂ (λ a b. a || b) (sym (has_come-flag (test x))) (any_is_soonest test xs)
    ∙ sym (has_come-sooner 0 (flag (test x)) (soonest (λ x. flag (test x)) xs))

pub any-empty : {K X : Type 0} (R : K → K → Ordering) (test : X → Bool) → list_any test (map.values (map.empty {X = X} {R = R})) ≡ false
any-empty {X = X} R test = any_is_soonest test (map.values (map.empty {X = X} {R = R})) ∙ ap (has_come 0) (soonest-empty R (λ x. flag (test x)))

module _ {K X : Type 0} {R : K → K → Ordering} (o : IsTotalOrder R) (test : X → Bool) (m : map.FinMap R X) (k : K) where
  -- with a value where there was none
  pub any-insert : (v : X) → map.get m k ≡ None → list_any test (map.values (map.insert m k v)) ≡ (list_any test (map.values m) || test v)
  any-insert v none =
      any_is_soonest test (map.values (map.insert m k v))
      ∙ ap (has_come 0) (soonest-missing o (λ x. flag (test x)) m k v none)
      ∙ has_come-sooner 0 (soonest (λ x. flag (test x)) (map.values m)) (flag (test v))
      ∙ ap₂ (λ a b. a || b) (sym (any_is_soonest test (map.values m))) (has_come-flag (test v))

  -- with a value that passes as the one before did
  pub any-changed_at : (g : X → X) (v : X) → map.get m k ≡ Some v → test (g v) ≡ test v → list_any test (map.values (changed_at g m k)) ≡ list_any test (map.values m)
  any-changed_at g v there same =
      any_is_soonest test (map.values (changed_at g m k))
      ∙ ap (has_come 0) (soonest-changed_at o (λ x. flag (test x)) m k g v None there (ap flag same ∙ sym (sooner-none (flag (test v)))) ∙ sooner-none _)
      ∙ sym (any_is_soonest test (map.values m))

right_too : (a b : Bool) → b ≡ true → (a || b) ≡ true
right_too true b e = refl
right_too false b e = e

-- two tests that agree at each key of a list
pub any_same : {K : Type 0} {R : K → K → Ordering} (o : IsTotalOrder R) (f g : K → Bool) (ks : List K) → ((k : K) → list_any (eq_by_cmp R k) ks ≡ true → f k ≡ g k) → list_any f ks ≡ list_any g ks
any_same o f g [] same = refl
any_same {R = R} o f g (k ∷ ks) same =
    ap₂ (λ a b. a || b) (same k (ap (λ b. b || list_any (eq_by_cmp R k) ks) ((eq_by_cmp_equiv o).refl k)))
    (any_same o f g ks (λ n e. same n (right_too (eq_by_cmp R n k) (list_any (eq_by_cmp R n) ks) e)))
