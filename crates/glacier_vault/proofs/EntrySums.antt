-- The sum over a finite map's entries, after a change of the map.
use Rattle.std.specs.Prelude.{◌≡◌, ℕ, ◌+◌, Bool, true, false, cond, List, [], ◌∷◌, length, Option, Some, None, sum_by}
use Rattle.std.specs.declared.cmp.Ordering.{Ordering}
use Rattle.std.specs.declared.cmp.Ordering.TheVariants.{Less, Equal, Greater}
use Rattle.std.specs.Ordering.{eq_by_cmp, is_eq}
use Rattle.std.specs.Cmp.{IsTotalOrder, eq_by_cmp_equiv}
use Rattle.std.specs.FinMap as map
use Rattle.std.specs.FinMap.{put}
use Rattle.std.specs.FinMap.Entries.{by_order}
use Rattle.std.proofs.Common.{◌∙◌, ap, sym, refl, arith}
use Rattle.std.proofs.lemmas.List.Sums.{sum_by-cons}
use Rattle.glacier_base.specs.Maps.{changed_at}
use Rattle.glacier_base.proofs.Sorted.{tied}

no_entries : {X : Type 0} (es : List X) → length es ≡ 0 → es ≡ []
no_entries [] e = refl
no_entries (x ∷ es) e = absurd (omega arith)

module _ {K X : Type 0} (R : K → K → Ordering) (f : K → X → ℕ) where
  abbrev pub entry_sum : map.FinMap R X → ℕ
  entry_sum m = sum_by (λ e. f e.0 e.1) (map.entries m)

  pub entry_sum-empty : entry_sum map.empty ≡ 0
  entry_sum-empty = ap (sum_by (λ e. f e.0 e.1)) (no_entries (map.entries (map.empty {X = X} {R = R})) (sym (map.len-entries (map.empty {X = X} {R = R})) ∙ map.len-empty R X))

  abbrev summed : List (K × X) → ℕ
  summed es = sum_by (λ e. f e.0 e.1) es

  summed-put : (k : K) (v : X) (es : List (K × X)) → map.find R k es ≡ None → summed (put R k v es) ≡ summed es + f k v
  summed-put k v [] none = omega (arith, sum_by-cons {X = K × X} (λ e. f e.0 e.1) (k, v) [])
  summed-put k v (e ∷ es) none = at (R k e.0) none (summed-put k v es)
    where
      at : (r : Ordering) → cond (is_eq r) (Some e.1) (map.find R k es) ≡ None → (map.find R k es ≡ None → summed (put R k v es) ≡ summed es + f k v)
          → summed (by_order r ((k, v) ∷ e ∷ es) ((e.0, v) ∷ es) (e ∷ put R k v es)) ≡ summed (e ∷ es) + f k v
      at Less none later =
          let goal : summed ((k, v) ∷ e ∷ es) ≡ summed (e ∷ es) + f k v = omega (arith, sum_by-cons {X = K × X} (λ e. f e.0 e.1) (k, v) (e ∷ es)) in
          goal
      at Equal none later = cc
      at Greater none later =
          let goal : summed (e ∷ put R k v es) ≡ summed (e ∷ es) + f k v =
          omega (arith, later none, sum_by-cons {X = K × X} (λ e. f e.0 e.1) e (put R k v es), sum_by-cons {X = K × X} (λ e. f e.0 e.1) e es) in
          goal

module _ {K X : Type 0} {R : K → K → Ordering} (o : IsTotalOrder R) (same : map.IsAntisymmetric R) (f : K → X → ℕ) (m : map.FinMap R X) (k : K) where
  pub entry_sum-insert : (v : X) → map.get m k ≡ None → entry_sum R f (map.insert m k v) ≡ entry_sum R f m + f k v
  entry_sum-insert v none = ap (sum_by (λ e. f e.0 e.1)) (map.entries-insert o m k v) ∙ summed-put R f k v (map.entries m) (sym (map.get-entries m k) ∙ none)

  gone : map.get (map.remove m k) k ≡ None
  gone = map.get-remove o m k k ∙ ap (λ b. cond b None (map.get m k)) ((eq_by_cmp_equiv o).refl k)

  -- what is put in place of a value is put where it was taken out
  put_again : (w : X) → map.insert (map.remove m k) k w ≡ map.insert m k w
  put_again w = map.same_map o same _ _ (λ q. map.get-insert o (map.remove m k) k w q ∙ at q (eq_by_cmp R q k) refl ∙ sym (map.get-insert o m k w q))
    where
      at : (q : K) (b : Bool) → eq_by_cmp R q k ≡ b → cond b (Some w) (map.get (map.remove m k) q) ≡ cond b (Some w) (map.get m q)
      at q true t = refl
      at q false t = map.get-remove o m k q ∙ ap (λ b. cond b None (map.get m q)) t

  entry_sum-anew : (w : X) → entry_sum R f (map.insert m k w) ≡ entry_sum R f (map.remove m k) + f k w
  entry_sum-anew w =
      ap (entry_sum R f) (sym (put_again w))
      ∙ ap (sum_by (λ e. f e.0 e.1)) (map.entries-insert o (map.remove m k) k w)
      ∙ summed-put R f k w (map.entries (map.remove m k)) (sym (map.get-entries (map.remove m k) k) ∙ gone)

  put_back : (v : X) → map.get m k ≡ Some v → map.insert m k v ≡ m
  put_back v there = map.same_map o same _ _ (λ q. map.get-insert o m k v q ∙ at q (eq_by_cmp R q k) refl)
    where
      at : (q : K) (b : Bool) → eq_by_cmp R q k ≡ b → cond b (Some v) (map.get m q) ≡ map.get m q
      at q true t = sym there ∙ map.get_tied o m q k (tied _ t)
      at q false t = refl

  module _ (v : X) (there : map.get m k ≡ Some v) where
    pub entry_sum-remove : entry_sum R f (map.remove m k) + f k v ≡ entry_sum R f m
    entry_sum-remove = sym (entry_sum-anew v) ∙ ap (entry_sum R f) (put_back v there)

    pub entry_sum-changed_at : (g : X → X) → entry_sum R f (changed_at g m k) + f k v ≡ entry_sum R f m + f k (g v)
    entry_sum-changed_at g =
        let changed : entry_sum R f (changed_at g m k) ≡ entry_sum R f (map.insert m k (g v)) =
        ap (λ (r : Option X). entry_sum R f (elim r as (λ _. map.FinMap R X) [ None ↦ m | Some v ↦ map.insert m k (g v) ])) there in
        omega (arith, changed, entry_sum-anew (g v), entry_sum-remove)
