-- The soonest moment over a finite map's values, after a change of the map.
use Rattle.std.specs.Prelude.{◌≡◌, ℕ, Bool, true, false, cond, ◌||◌, List, [], ◌∷◌, length, Option, Some, None}
use Rattle.std.specs.declared.cmp.Ordering.{Ordering}
use Rattle.std.specs.declared.cmp.Ordering.TheVariants.{Less, Equal, Greater}
use Rattle.std.specs.Ordering.{eq_by_cmp, is_eq}
use Rattle.std.specs.Cmp.{IsTotalOrder}
use Rattle.std.specs.FinMap as map
use Rattle.std.specs.FinMap.{put}
use Rattle.std.specs.FinMap.Entries.{by_order}
use Rattle.std.specs.List.{list_any}
use Rattle.std.specs.Map.{keys_of, values_of}
use Rattle.std.proofs.Common.{◌∙◌, ap, sym, refl, arith}
use Rattle.glacier_base.specs.Maps.{changed_at}
use Rattle.glacier_vault.specs.Due.{sooner, soonest}
use Rattle.glacier_vault.proofs.SoonerLemmas.{sooner-none, sooner-assoc, sooner-comm, sooner-swap, sooner-again}

-- what f gives of a value, if there is one
abbrev pub due_of : {X : Type 0} → (X → Option ℕ) → Option X → Option ℕ
due_of f None = None
due_of f (Some x) = f x

no_values : {X : Type 0} (xs : List X) → length xs ≡ 0 → xs ≡ []
no_values [] e = refl
no_values (x ∷ xs) e = absurd (omega arith)

module _ {K X : Type 0} (R : K → K → Ordering) (f : X → Option ℕ) where
  pub soonest-empty : soonest f (map.values (map.empty {X = X} {R = R})) ≡ None
  soonest-empty =
      let none : map.entries (map.empty {X = X} {R = R}) ≡ [] = no_values _ (sym (map.len-entries (map.empty {X = X} {R = R})) ∙ map.len-empty R X) in
      ap (λ (es : List (K × X)). soonest f (values_of es)) none

  abbrev in_entries : List (K × X) → Option ℕ
  in_entries es = soonest f (values_of es)

  -- what is there counts already
  counted : (k : K) (es : List (K × X)) → sooner (due_of f (map.find R k es)) (in_entries es) ≡ in_entries es
  counted k [] = refl
  counted k (e ∷ es) = at (eq_by_cmp R k e.0) (counted k es)
    where
      at : (b : Bool) → sooner (due_of f (map.find R k es)) (in_entries es) ≡ in_entries es
          → sooner (due_of f (cond b (Some e.1) (map.find R k es))) (sooner (f e.1) (in_entries es)) ≡ sooner (f e.1) (in_entries es)
      at true later = sooner-again (f e.1) (in_entries es)
      at false later =
          let found = due_of f (map.find R k es) in
          sym (sooner-assoc found (f e.1) (in_entries es))
          ∙ ap (λ x. sooner x (in_entries es)) (sooner-comm found (f e.1))
          ∙ sooner-assoc (f e.1) found (in_entries es) ∙ ap (sooner (f e.1)) later

  -- an entry whose moment is that of the one there, or x if that is sooner
  soonest-put : (k : K) (v : X) (x : Option ℕ) (es : List (K × X)) → f v ≡ sooner (due_of f (map.find R k es)) x → in_entries (put R k v es) ≡ sooner (in_entries es) x
  soonest-put k v x [] h = sooner-none (f v) ∙ h
  soonest-put k v x (e ∷ es) h = at (R k e.0) refl h (soonest-put k v x es)
    where
      before : (d : Option ℕ) (all : Option ℕ) → f v ≡ sooner d x → sooner d all ≡ all → sooner (f v) all ≡ sooner all x
      before d all h is = ap (λ y. sooner y all) h ∙ sooner-swap d x all ∙ ap (λ y. sooner y x) is

      at : (r : Ordering) → R k e.0 ≡ r → f v ≡ sooner (due_of f (cond (is_eq r) (Some e.1) (map.find R k es))) x
          → (f v ≡ sooner (due_of f (map.find R k es)) x → in_entries (put R k v es) ≡ sooner (in_entries es) x)
          → in_entries (by_order r ((k, v) ∷ e ∷ es) ((e.0, v) ∷ es) (e ∷ put R k v es)) ≡ sooner (in_entries (e ∷ es)) x
      at Less t h later = before (due_of f (map.find R k es)) (in_entries (e ∷ es)) h
          (ap (λ b. sooner (due_of f (cond b (Some e.1) (map.find R k es))) (in_entries (e ∷ es))) (sym (ap is_eq t)) ∙ counted k (e ∷ es))
      at Equal t h later = ap (λ y. sooner y (in_entries es)) h ∙ sooner-swap (f e.1) x (in_entries es)
      at Greater t h later = ap (sooner (f e.1)) (later h) ∙ sym (sooner-assoc (f e.1) (in_entries es) x)

module _ {K X : Type 0} {R : K → K → Ordering} (o : IsTotalOrder R) (f : X → Option ℕ) (m : map.FinMap R X) (k : K) where
  pub soonest-insert : (v : X) (x : Option ℕ) → f v ≡ sooner (due_of f (map.get m k)) x → soonest f (map.values (map.insert m k v)) ≡ sooner (soonest f (map.values m)) x
  soonest-insert v x h =
      ap (λ (es : List (K × X)). soonest f (values_of es)) (map.entries-insert o m k v)
      ∙ soonest-put R f k v x (map.entries m) (h ∙ ap (λ r. sooner (due_of f r) x) (map.get-entries m k))

  -- a value where there was none
  pub soonest-missing : (v : X) → map.get m k ≡ None → soonest f (map.values (map.insert m k v)) ≡ sooner (soonest f (map.values m)) (f v)
  soonest-missing v none = soonest-insert v (f v) (ap (λ r. sooner (due_of f r) (f v)) (sym none))

  -- a value that is changed, whose moment stays, or becomes x if that is sooner
  pub soonest-changed_at : (g : X → X) (v : X) (x : Option ℕ) → map.get m k ≡ Some v → f (g v) ≡ sooner (f v) x → soonest f (map.values (changed_at g m k)) ≡ sooner (soonest f (map.values m)) x
  soonest-changed_at g v x there h =
      ap (λ (r : Option X). soonest f (map.values (elim r as (λ _. map.FinMap R X) [ None ↦ m | Some v ↦ map.insert m k (g v) ]))) there
      ∙ soonest-insert (g v) x (h ∙ ap (λ r. sooner (due_of f r) x) (sym there))

module _ {K X : Type 0} {R : K → K → Ordering} (o : IsTotalOrder R) (same : map.IsAntisymmetric R) (test : K → Bool) where
  any-put : (k : K) (v : X) (es : List (K × X)) → list_any test (keys_of (put R k v es)) ≡ (test k || list_any test (keys_of es))
  any-put k v [] = refl
  any-put k v (e ∷ es) = at (R k e.0) refl (any-put k v es)
    where
      swap : (a b c : Bool) → (a || (b || c)) ≡ (b || (a || c))
      swap true true c = refl
      swap true false c = refl
      swap false b c = refl

      again : (a c : Bool) → (a || c) ≡ (a || (a || c))
      again true c = refl
      again false c = refl

      at : (r : Ordering) → R k e.0 ≡ r → list_any test (keys_of (put R k v es)) ≡ (test k || list_any test (keys_of es))
          → list_any test (keys_of (by_order r ((k, v) ∷ e ∷ es) ((e.0, v) ∷ es) (e ∷ put R k v es))) ≡ (test k || (test e.0 || list_any test (keys_of es)))
      at Less t later = refl
      at Equal t later = again (test e.0) (list_any test (keys_of es)) ∙ ap (λ q. test q || (test e.0 || list_any test (keys_of es))) (sym (same k e.0 t))
      at Greater t later = ap (λ b. test e.0 || b) later ∙ swap (test e.0) (test k) (list_any test (keys_of es))

  -- whether one of a map's keys passes, with one more
  pub any-keys-insert : (m : map.FinMap R X) (k : K) (v : X) → list_any test (map.keys (map.insert m k v)) ≡ (test k || list_any test (map.keys m))
  any-keys-insert m k v = ap (λ (es : List (K × X)). list_any test (keys_of es)) (map.entries-insert o m k v) ∙ any-put k v (map.entries m)

pub any-keys-empty : {K : Type 0} (X : Type 0) (R : K → K → Ordering) (test : K → Bool) → list_any test (map.keys (map.empty {X = X} {R = R})) ≡ false
any-keys-empty {K} X R test =
    let none : map.entries (map.empty {X = X} {R = R}) ≡ [] = no_values _ (sym (map.len-entries (map.empty {X = X} {R = R})) ∙ map.len-empty R X) in
    ap (λ (es : List (K × X)). list_any test (keys_of es)) none
