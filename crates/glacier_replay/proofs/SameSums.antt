-- Maps whose values weigh the same for each key have the same sum.
use Rattle.std.specs.Prelude.{◌≡◌, ℕ, ◌≤◌, Bool, true, false, cond, List, [], ◌∷◌, Option, Some, None, IfSome, nat_le, sum_by}
use Rattle.std.specs.Cmp.{IsTotalOrder, eq_by_cmp_equiv}
use Rattle.std.specs.declared.cmp.Ordering.{Ordering}
use Rattle.std.specs.FinMap as map
use Rattle.std.specs.List.Sorted.{IsStrictlySortedBy}
use Rattle.std.specs.Map.{keys_of, values_of}
use Rattle.std.specs.Ordering.{eq_by_cmp}
use Rattle.std.proofs.Common.{◌∙◌, ap, sym, refl, arith}
use Rattle.std.proofs.lemmas.Bool.Decides.{nat_tests}
use Rattle.std.proofs.lemmas.List.Sums.{sum_by-cons}
use Rattle.std.proofs.lemmas.Map.Keys.{sorted_head, sorted_tail}
use Rattle.glacier_base.proofs.Sorted.{rising, tied}
use Rattle.glacier_base.proofs.Sums.{weight, sum_by-remove}
use Rattle.glacier_replay.proofs.NamedLemmas.{absent, some_value}

module _ {K : Type 0} {R : K → K → Ordering} (o : IsTotalOrder R) (same : map.IsAntisymmetric R) where
  -- where nothing weighs anything
  pub none_sum : {X : Type 0} (f : X → ℕ) (m : map.FinMap R X) → ((k : K) → weight f (map.get m k) ≡ 0) → sum_by f (map.values m) ≡ 0
  none_sum {X} f m none = at (nat_le 1 (sum_by f (map.values m))) refl
    where
      nothing : (k : K) (v : X) → map.get m k ≡ Some v → 1 ≤ f v → ⊥
      nothing k v there some = omega (arith, some, none k, ap (weight f) there)

      at : (b : Bool) → nat_le 1 (sum_by f (map.values m)) ≡ b → sum_by f (map.values m) ≡ 0
      at true t = absurd (some_value o same f ⊥ m (grind (arith, nat_tests)) nothing)
      at false t = grind (arith, nat_tests)

  module _ {X Y : Type 0} (f : X → ℕ) (g : Y → ℕ) where
    same_entries : (es : List (K × X)) → IsStrictlySortedBy R (keys_of es) → (n : map.FinMap R Y) → ((k : K) → weight f (map.find R k es) ≡ weight g (map.get n k))
        → sum_by f (values_of es) ≡ sum_by g (map.values n)
    same_entries [] sorted n each = sym (none_sum g n (λ k. sym (each k)))
    same_entries (e ∷ es) sorted n each =
        omega (
          arith,
          here,
          sum_by-cons f e.1 (values_of es),
          sum_by-remove o g same n e.0,
          same_entries es (sorted_tail R e.0 (keys_of es) sorted) (map.remove n e.0) (λ k. later k (eq_by_cmp R k e.0) refl),
        )
      where
        here : f e.1 ≡ weight g (map.get n e.0)
        here = ap (λ b. weight f (cond b (Some e.1) (map.find R e.0 es))) (sym ((eq_by_cmp_equiv o).refl e.0)) ∙ each e.0

        later : (k : K) (b : Bool) → eq_by_cmp R k e.0 ≡ b → weight f (map.find R k es) ≡ weight g (map.get (map.remove n e.0) k)
        later k true t =
            ap (weight f) (ap (λ q. map.find R q es) (same k e.0 (tied _ t)) ∙ absent o same f e.0 es (sorted_head R e.0 (keys_of es) sorted))
            ∙ sym (ap (weight g) (map.get-remove o n e.0 k ∙ ap (λ b. cond b None (map.get n k)) t))
        later k false t =
            ap (λ b. weight f (cond b (Some e.1) (map.find R k es))) (sym t) ∙ each k
            ∙ sym (ap (weight g) (map.get-remove o n e.0 k ∙ ap (λ b. cond b None (map.get n k)) t))

    pub same_sums : (m : map.FinMap R X) (n : map.FinMap R Y) → ((k : K) → weight f (map.get m k) ≡ weight g (map.get n k)) → sum_by f (map.values m) ≡ sum_by g (map.values n)
    same_sums m n each = same_entries (map.entries m) (rising R (map.entries m) (map.entries_sorted m)) n (λ k. ap (weight f) (sym (map.get-entries m k)) ∙ each k)

  -- the same of each value of one map
  pub sums_agree : {X : Type 0} (f g : X → ℕ) (m : map.FinMap R X) → ((k : K) → IfSome (map.get m k) (λ v. f v ≡ g v)) → sum_by f (map.values m) ≡ sum_by g (map.values m)
  sums_agree {X} f g m each = same_sums f g m m (λ k. at (map.get m k) (each k))
    where
      at : (r : Option X) → IfSome r (λ v. f v ≡ g v) → weight f r ≡ weight g r
      at None is = refl
      at (Some v) is = is
