-- What items make one after another, and what those of a map's entries make.
use Rattle.std.specs.Prelude.{◌≡◌, ℕ, Bool, true, false, cond, ◌&&◌, T, List, [], ◌∷◌, ◌++◌, Option, Some, None, ◌+◌, ◌≤◌, sum_by, if◌then◌else◌}
use Rattle.std.specs.declared.cmp.Ordering.{Ordering}
use Rattle.std.specs.declared.cmp.Ordering.TheVariants.{Less, Equal, Greater}
use Rattle.std.specs.Ordering.{eq_by_cmp, is_lt, is_eq}
use Rattle.std.specs.Cmp.{IsTotalOrder, eq_by_cmp_equiv}
use Rattle.std.specs.FinMap.{FinMap, IsAntisymmetric, empty, from_entries, from_entries_push, get, insert, entries, entries_sorted, find, values, get-entries, get-from_entries, get-insert, same_map}
use Rattle.std.specs.FinMap.Entries.{below_all, is_sorted}
use Rattle.std.specs.List.{flat_map}
use Rattle.std.specs.Map.{values_of}
use Rattle.std.proofs.Common.{◌∙◌, ap, sym, refl, subst, append_assoc, arith}
use Rattle.std.proofs.lemmas.List.{append-nil}
use Rattle.glacier_base.specs.Maps.{changed_at}
use Rattle.std.proofs.lemmas.List.Sums.{sum_by-cons}
use Rattle.glacier_base.proofs.Changed.{from_entries-entries}
use Rattle.glacier_base.proofs.Finite.{entries-from_tree}
use Rattle.glacier_base.proofs.Sorted.{rising}
use Rattle.glacier_vault.specs.declared.state.AccountState.{AccountState}
use Rattle.glacier_records.specs.declared.kept.Kept.{Kept}
use Rattle.glacier_restore.specs.Restoring.{names_some, put, restored}
use Rattle.glacier_restore.specs.Snapshot.{Items, put_all, of_each}

-- items behind items that make an account
pub put_all-append : (xs ys : Items) (a b : AccountState) → put_all a xs ≡ Some b → put_all a (xs ++ ys) ≡ put_all b ys
put_all-append [] ys a b e = let same : a ≡ b = cc in ap (λ c. put_all c ys) same
put_all-append (x ∷ xs) ys a b e = at (restored a x.0 x.1) (λ next e. put_all-append xs ys next b e) e
  where
    at : (r : Option AccountState) → ((next : AccountState) → put_all next xs ≡ Some b → put_all next (xs ++ ys) ≡ put_all b ys)
        → elim r as (λ _. Option AccountState) [ None ↦ None | Some next ↦ put_all next xs ] ≡ Some b
        → elim r as (λ _. Option AccountState) [ None ↦ None | Some next ↦ put_all next (xs ++ ys) ] ≡ put_all b ys
    at None later e = cc
    at (Some next) later e = later next e

-- an item that brings no blob which is named already, and items behind it
pub put_all-cons : (m : ℕ) (item : Kept) (ys : Items) (a b : AccountState) → names_some a item ≡ false → put a m item ≡ Some b → put_all a ((m, item) ∷ ys) ≡ put_all b ys
put_all-cons m item ys a b new e =
    ap (λ r. elim r as (λ _. Option AccountState) [ None ↦ None | Some next ↦ put_all next ys ]) (ap (λ c. if c then None else put a m item) new ∙ e)

first : (a b : Bool) → T (a && b) → T a
first true b p = tt
first false b p = p

second : (a b : Bool) → T (a && b) → T b
second true b p = p
second false b p = absurd p

and_both : (a b : Bool) → T a → T b → T (a && b)
and_both true b p q = q
and_both false b p q = p

not_tied : (r : Ordering) → T (is_lt r) → is_eq r ≡ false
not_tied Less h = refl
not_tied Equal h = absurd h
not_tied Greater h = absurd h

-- beside the values of p there is room for x in m
abbrev pub HasRoom : {K X : Type 0} {R : K → K → Ordering} → FinMap R X → FinMap R X → X → Type 0
HasRoom {X = X} m p x = (f : X → ℕ) → sum_by f (values p) + f x ≤ sum_by f (values m)

module _ {K X : Type 0} {R : K → K → Ordering} (o : IsTotalOrder R) where
  -- the front of a sorted list is sorted
  below_front : (k : K) (done left : List (K × X)) → T (below_all R k (done ++ left)) → T (below_all R k done)
  below_front k [] left h = tt
  below_front k (d ∷ done) left h = and_both (is_lt (R k d.0)) (below_all R k done) (first _ _ h) (below_front k done left (second _ _ h))

  sorted_front : (done left : List (K × X)) → T (is_sorted R (done ++ left)) → T (is_sorted R done)
  sorted_front [] left s = tt
  sorted_front (d ∷ done) left s = and_both (below_all R d.0 done) (is_sorted R done) (below_front d.0 done left (first _ _ s)) (sorted_front done left (second _ _ s))

  -- an entry weighs what is left beside those in front of it
  sum_room : (f : X → ℕ) (done : List (K × X)) (e : K × X) (left : List (K × X)) → sum_by f (values_of done) + f e.1 ≤ sum_by f (values_of (done ++ e ∷ left))
  sum_room f [] e left = omega (arith, sum_by-cons {X = X} f e.1 (values_of left))
  sum_room f (d ∷ done) e left = omega (arith, sum_room f done e left, sum_by-cons {X = X} f d.1 (values_of done), sum_by-cons {X = X} f d.1 (values_of (done ++ e ∷ left)))

  -- a key below a list's is below each of it
  below : (k : K) (done : List (K × X)) (e : K × X) (left : List (K × X)) → T (below_all R k (done ++ e ∷ left)) → T (is_lt (R k e.0))
  below k [] e left h = first _ _ h
  below k (d ∷ done) e left h = below k done e left (second _ _ h)

  -- an entry of a sorted list is found at its key, and isn't in front of it
  found_there : (done : List (K × X)) (e : K × X) (left : List (K × X)) → T (is_sorted R (done ++ e ∷ left)) → (find R e.0 done ≡ None) × (find R e.0 (done ++ e ∷ left) ≡ Some e.1)
  found_there [] e left s = (refl, ap (λ b. cond b (Some e.1) (find R e.0 left)) ((eq_by_cmp_equiv o).refl e.0))
  found_there (d ∷ done) e left s =
      let later = found_there done e left (second _ _ s) in
      let apart : eq_by_cmp R e.0 d.0 ≡ false = (eq_by_cmp_equiv o).symm e.0 d.0 ∙ not_tied (R d.0 e.0) (below d.0 done e left (first _ _ s)) in
      (ap (λ b. cond b (Some d.1) (find R e.0 done)) apart ∙ later.0, ap (λ b. cond b (Some d.1) (find R e.0 (done ++ e ∷ left))) apart ∙ later.1)

  module _ (same : IsAntisymmetric R) where
    -- where the items of an entry add it to a map, those of all entries make the map
    module _ (m : FinMap R X) (made : FinMap R X → AccountState) (items : K → X → Items)
        (step : (p : FinMap R X) (k : K) (x : X) → get m k ≡ Some x → get p k ≡ None → HasRoom m p x → put_all (made p) (items k x) ≡ Some (made (insert p k x))) where
      goes : (left done : List (K × X)) → done ++ left ≡ entries m → put_all (made (from_entries done)) (flat_map (λ e. items e.0 e.1) left) ≡ Some (made m)
      goes [] done is = ap (λ es. Some (made (from_entries es))) (sym (append-nil done) ∙ is) ∙ ap (λ n. Some (made n)) (from_entries-entries o same m)
      goes (e ∷ left) done is =
          let sorted = subst (λ es. T (is_sorted R es)) (sym is) (entries_sorted m) in
          let found = found_there done e left sorted in
          let front : entries (from_entries {R = R} done) ≡ done = entries-from_tree o done (rising R done (sorted_front done (e ∷ left) sorted)) in
          let room : HasRoom m (from_entries {R = R} done) e.1 =
          λ f. omega (arith, ap (λ (es : List (K × X)). sum_by f (values_of es)) front, ap (λ (es : List (K × X)). sum_by f (values_of es)) is, sum_room f done e left) in
          let there : get m e.0 ≡ Some e.1 = get-entries m e.0 ∙ ap (find R e.0) (sym is) ∙ found.1 in
          let none : get (from_entries {R = R} done) e.0 ≡ None = get-from_entries o done e.0 ∙ found.0 in
          put_all-append (items e.0 e.1) _ _ _ (step (from_entries done) e.0 e.1 there none room)
          ∙ ap (λ n. put_all (made n) (flat_map (λ e. items e.0 e.1) left)) (sym (from_entries_push o same done e.0 e.1 found.0))
          ∙ goes left (done ++ e ∷ []) (append_assoc done (e ∷ []) left ∙ is)

      pub each_entry : put_all (made empty) (of_each items m) ≡ Some (made m)
      each_entry = goes (entries m) [] refl

    module _ (m : FinMap R X) (k : K) (v : X) where
      pub get_there : get (insert m k v) k ≡ Some v
      get_there = get-insert o m k v k ∙ ap (λ b. cond b (Some v) (get m k)) ((eq_by_cmp_equiv o).refl k)

      -- what was put at a key is put over
      put_over : (w : X) → insert (insert m k v) k w ≡ insert m k w
      put_over w = same_map o same _ _ (λ q.
          get-insert o (insert m k v) k w q
          ∙ ap (λ r. cond (eq_by_cmp R q k) (Some w) r) (get-insert o m k v q)
          ∙ twice (eq_by_cmp R q k) (get m q)
          ∙ sym (get-insert o m k w q))
        where
          twice : (b : Bool) (r : Option X) → cond b (Some w) (cond b (Some v) r) ≡ cond b (Some w) r
          twice true r = refl
          twice false r = refl

      pub changed_there : (f : X → X) → changed_at f (insert m k v) k ≡ insert m k (f v)
      changed_there f = ap (λ r. elim r as (λ _. FinMap R X) [ None ↦ insert m k v | Some x ↦ insert (insert m k v) k (f x) ]) get_there ∙ put_over (f v)
