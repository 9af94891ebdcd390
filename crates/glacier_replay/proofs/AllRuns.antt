-- The runs of all blobs, one after another.
use Rattle.std.specs.Prelude.{◌≡◌, ℕ, Bool, true, false, cond, ◌||◌, List, [], ◌∷◌, ◌++◌, Option, Some, None, sum_by}
use Rattle.std.specs.Cmp.{IsTotalOrder, nat_cmp_total, eq_by_cmp_equiv}
use Rattle.std.specs.Cmp.Lexicographic.{nat_list_cmp_total}
use Rattle.std.specs.declared.cmp.Ordering.{Ordering}
use Rattle.std.specs.FinMap as map
use Rattle.std.specs.FinMap.{FinMap}
use Rattle.std.specs.List.Sorted.{IsStrictlySortedBy}
use Rattle.std.specs.Map.{keys_of, values_of}
use Rattle.std.specs.Ordering.{nat_cmp, eq_by_cmp}
use Rattle.std.proofs.Common.{◌∙◌, ap, sym, refl, arith, inl, inr}
use Rattle.std.proofs.lemmas.List.Sums.{sum_by-cons}
use Rattle.std.proofs.lemmas.Map.Keys.{sorted_head, sorted_tail}
use Rattle.glacier_base.proofs.Finite.{bytes_cmp-IsAntisymmetric}
use Rattle.glacier_base.proofs.Sorted.{rising, tied}
use Rattle.glacier_bodies.specs.Blobs.{IsApart}
use Rattle.glacier_bodies.specs.Stands.{Layouts, AreApart, at_blob}
use Rattle.glacier_extents.specs.declared.run.Run.{Run}
use Rattle.glacier_extents.specs.FreeRuns.{blocks}
use Rattle.glacier_extents.specs.Runs.{in_run, has_block, block_count, AreDistinct}
use Rattle.glacier_extents.proofs.RunLemmas.{has_block-append, block_count-append}
use Rattle.glacier_replay.specs.InUse.{blob_blocks, layout_blocks}
use Rattle.glacier_replay.specs.Made.{IsNobodys}
use Rattle.glacier_replay.proofs.BlobMaps.{look}
use Rattle.glacier_replay.proofs.NamedLemmas.{absent}
use Rattle.glacier_replay.proofs.RestLemmas.{or_either}

or_left : (a b : Bool) → a ≡ true → (a || b) ≡ true
or_left true b t = refl
or_left false b t = cc

or_right : (a b : Bool) → b ≡ true → (a || b) ≡ true
or_right true b t = refl
or_right false b t = t

not_so : (b : Bool) → (b ≡ true → ⊥) → b ≡ false
not_so true denied = absurd (denied refl)
not_so false denied = refl

clash : (b : Bool) → b ≡ true → b ≡ false → ⊥
clash true t f = cc
clash false t f = cc

-- distinct runs, and others apart from them
distinct-append : (high : ℕ) (xs ys : List Run) → AreDistinct high xs → AreDistinct high ys → IsApart (has_block xs) ys → AreDistinct high (xs ++ ys)
distinct-append high [] ys ours theirs apart = theirs
distinct-append high (x ∷ xs) ys ours theirs apart = (
  ours.0,
  ours.1,
  λ b its. has_block-append xs ys b ∙ ap (λ c. c || has_block ys b) (ours.2 b its) ∙ apart b (or_left (in_run x b) (has_block xs b) its),
  distinct-append high xs ys ours.3 theirs (λ b its. apart b (or_right (in_run x b) (has_block xs b) its)),
)

module _ {K X : Type 0} {R : K → K → Ordering} (o : IsTotalOrder R) (same : map.IsAntisymmetric R) (runs : X → List Run) where
  -- the runs of all values
  abbrev joined : List (K × X) → List Run
  joined [] = []
  joined (e ∷ es) = runs e.1 ++ joined es

  abbrev all_of : FinMap R X → List Run
  all_of m = joined (map.entries m)

  joined_count : (es : List (K × X)) → block_count (joined es) ≡ sum_by (λ x. block_count (runs x)) (values_of es)
  joined_count [] = refl
  joined_count (e ∷ es) = omega (arith, block_count-append (runs e.1) (joined es), joined_count es, sum_by-cons (λ x. block_count (runs x)) e.1 (values_of es))

  first : (e : K × X) (es : List (K × X)) → map.find R e.0 (e ∷ es) ≡ Some e.1
  first e es = ap (λ b. cond b (Some e.1) (map.find R e.0 es)) ((eq_by_cmp_equiv o).refl e.0)

  module _ (e : K × X) (es : List (K × X)) (sorted : IsStrictlySortedBy R (keys_of (e ∷ es))) (k : K) (x : X) (there : map.find R k es ≡ Some x) where
    other : k ≡ e.0 → ⊥
    other is =
        let none : map.find R k es ≡ None = ap (λ q. map.find R q es) is ∙ absent o same (λ _. 0) e.0 es (sorted_head R e.0 (keys_of es) sorted) in
        let no : None ≡ Some x = sym none ∙ there in
        cc

    behind : map.find R k (e ∷ es) ≡ Some x
    behind = at (eq_by_cmp R k e.0) refl
      where
        at : (b : Bool) → eq_by_cmp R k e.0 ≡ b → cond b (Some e.1) (map.find R k es) ≡ Some x
        at true t = absurd (other (same k e.0 (tied _ t)))
        at false t = there

  -- a block of all is one of some value's
  joined_has : (G : Type 0) (b : ℕ) (es : List (K × X)) → IsStrictlySortedBy R (keys_of es) → has_block (joined es) b ≡ true
      → ((k : K) (x : X) → map.find R k es ≡ Some x → has_block (runs x) b ≡ true → G) → G
  joined_has G b [] sorted its f = cc
  joined_has G b (e ∷ es) sorted its f =
      elim (or_either (has_block (runs e.1) b) (has_block (joined es) b) (sym (has_block-append (runs e.1) (joined es) b) ∙ its)) [
        | inl here ↦ f e.0 e.1 (first e es) here
        | inr rest ↦ joined_has G b es (sorted_tail R e.0 (keys_of es) sorted) rest (λ k x there has. f k x (behind e es sorted k x there) has)
      ]

  -- and a value's is one of all
  joined_in : (b : ℕ) (k : K) (x : X) (es : List (K × X)) → map.find R k es ≡ Some x → has_block (runs x) b ≡ true → has_block (joined es) b ≡ true
  joined_in b k x [] there its = cc
  joined_in b k x (e ∷ es) there its = has_block-append (runs e.1) (joined es) b ∙ at (eq_by_cmp R k e.0) there (joined_in b k x es)
    where
      at : (c : Bool) → cond c (Some e.1) (map.find R k es) ≡ Some x → (map.find R k es ≡ Some x → has_block (runs x) b ≡ true → has_block (joined es) b ≡ true) → (has_block (runs e.1) b || has_block (joined es) b) ≡ true
      at true is later =
          let same : e.1 ≡ x = some_is e.1 x is in
          or_left (has_block (runs e.1) b) (has_block (joined es) b) (ap (λ y. has_block (runs y) b) same ∙ its)
        where
          some_is : (y z : X) → Some y ≡ Some z → y ≡ z
          some_is y z e = cc
      at false is later = or_right (has_block (runs e.1) b) (has_block (joined es) b) (later is its)

  joined_distinct : (high : ℕ) (es : List (K × X)) → IsStrictlySortedBy R (keys_of es) → ((k : K) (x : X) → map.find R k es ≡ Some x → AreDistinct high (runs x))
      → ((k : K) (x : X) (l : K) (y : X) → map.find R k es ≡ Some x → map.find R l es ≡ Some y → (k ≡ l → ⊥) → IsApart (has_block (runs x)) (runs y)) → AreDistinct high (joined es)
  joined_distinct high [] sorted each apart = tt
  joined_distinct high (e ∷ es) sorted each apart =
      distinct-append high (runs e.1) (joined es) (each e.0 e.1 (first e es))
      (joined_distinct high es (sorted_tail R e.0 (keys_of es) sorted) (λ k x there. each k x (behind e es sorted k x there))
      (λ k x l y one two. apart k x l y (behind e es sorted k x one) (behind e es sorted l y two)))
      (λ b its. not_so (has_block (joined es) b) (λ also. joined_has ⊥ b es (sorted_tail R e.0 (keys_of es) sorted) also (λ k x there has.
      clash (has_block (runs x) b) has (apart e.0 e.1 k x (first e es) (behind e es sorted k x there) (λ is. other e es sorted k x there (sym is)) b its))))

  module _ (m : FinMap R X) where
    sorted_of : IsStrictlySortedBy R (keys_of (map.entries m))
    sorted_of = rising R (map.entries m) (map.entries_sorted m)

    pub all_count : block_count (all_of m) ≡ sum_by (λ x. block_count (runs x)) (map.values m)
    all_count = joined_count (map.entries m)

    pub all_has : (G : Type 0) (b : ℕ) → has_block (all_of m) b ≡ true → ((k : K) (x : X) → map.get m k ≡ Some x → has_block (runs x) b ≡ true → G) → G
    all_has G b its f = joined_has G b (map.entries m) sorted_of its (λ k x there has. f k x (map.get-entries m k ∙ there) has)

    pub all_in : (b : ℕ) (k : K) (x : X) → map.get m k ≡ Some x → has_block (runs x) b ≡ true → has_block (all_of m) b ≡ true
    all_in b k x there its = joined_in b k x (map.entries m) (sym (map.get-entries m k) ∙ there) its

    pub all_distinct : (high : ℕ) → ((k : K) (x : X) → map.get m k ≡ Some x → AreDistinct high (runs x))
        → ((k : K) (x : X) (l : K) (y : X) → map.get m k ≡ Some x → map.get m l ≡ Some y → (k ≡ l → ⊥) → IsApart (has_block (runs x)) (runs y)) → AreDistinct high (all_of m)
    all_distinct high each apart = joined_distinct high (map.entries m) sorted_of (λ k x there. each k x (map.get-entries m k ∙ there))
        (λ k x l y one two. apart k x l y (map.get-entries m k ∙ one) (map.get-entries m l ∙ two))

-- the runs of an account's blobs
abbrev runs_in : FinMap nat_cmp (List Run) → List Run
runs_in blobs = all_of nat_cmp_total map.nat_cmp-IsAntisymmetric (λ runs. runs) blobs

-- and of all
abbrev pub all_runs : Layouts → List Run
all_runs layouts = all_of nat_list_cmp_total bytes_cmp-IsAntisymmetric runs_in layouts

module _ (layouts : Layouts) where
  abbrev Found : List ℕ → ℕ → List Run → Type 0
  Found account number runs = at_blob layouts account number ≡ Some runs

  -- a blob of an account that is there
  found_in : (account : List ℕ) (blobs : FinMap nat_cmp (List Run)) → map.get layouts account ≡ Some blobs → (number : ℕ) (runs : List Run) → map.get blobs number ≡ Some runs → Found account number runs
  found_in account blobs there number runs has = ap (look number) there ∙ has

  pub runs_count : block_count (all_runs layouts) ≡ layout_blocks layouts
  runs_count = all_count nat_list_cmp_total bytes_cmp-IsAntisymmetric runs_in layouts ∙ each_same (map.values layouts)
    where
      each_same : (xs : List (FinMap nat_cmp (List Run))) → sum_by (λ blobs. block_count (runs_in blobs)) xs ≡ sum_by blob_blocks xs
      each_same [] = refl
      each_same (x ∷ xs) =
          omega (
            arith,
            all_count nat_cmp_total map.nat_cmp-IsAntisymmetric (λ runs. runs) x,
            each_same xs,
            sum_by-cons (λ blobs. block_count (runs_in blobs)) x xs,
            sum_by-cons blob_blocks x xs,
          )

  -- a block of all is a blob's
  runs_has : (G : Type 0) (b : ℕ) → has_block (all_runs layouts) b ≡ true → ((account : List ℕ) (number : ℕ) (runs : List Run) → Found account number runs → has_block runs b ≡ true → G) → G
  runs_has G b its f = all_has nat_list_cmp_total bytes_cmp-IsAntisymmetric runs_in layouts G b its (λ account blobs there has.
      all_has nat_cmp_total map.nat_cmp-IsAntisymmetric (λ runs. runs) blobs G b has (λ number runs found its. f account number runs (found_in account blobs there number runs found) its))

  -- and a blob's is one of all
  runs_in_all : (b : ℕ) (account : List ℕ) (number : ℕ) (runs : List Run) → Found account number runs → has_block runs b ≡ true → has_block (all_runs layouts) b ≡ true
  runs_in_all b account number runs found its = at (map.get layouts account) refl found
    where
      at : (r : Option (FinMap nat_cmp (List Run))) → map.get layouts account ≡ r → look number r ≡ Some runs → has_block (all_runs layouts) b ≡ true
      at None e found = cc
      at (Some blobs) e found = all_in nat_list_cmp_total bytes_cmp-IsAntisymmetric runs_in layouts b account blobs e (all_in nat_cmp_total map.nat_cmp-IsAntisymmetric (λ runs. runs) blobs b number runs found its)

  -- those that are no blob's
  pub not_in_all : (b : ℕ) → IsNobodys b layouts → has_block (all_runs layouts) b ≡ false
  not_in_all b nobody = not_so (has_block (all_runs layouts) b) (λ its. runs_has ⊥ b its (λ account number runs found has. clash (has_block runs b) has (nobody account number runs found)))

  pub nobodys : (b : ℕ) → has_block (all_runs layouts) b ≡ false → IsNobodys b layouts
  nobodys b out account number runs found = not_so (has_block runs b) (λ its. clash (has_block (all_runs layouts) b) (runs_in_all b account number runs found its) out)

  pub runs_distinct : AreApart layouts → AreDistinct blocks (all_runs layouts)
  runs_distinct apart = all_distinct nat_list_cmp_total bytes_cmp-IsAntisymmetric runs_in layouts blocks
      (λ account blobs there. all_distinct nat_cmp_total map.nat_cmp-IsAntisymmetric (λ runs. runs) blobs blocks
      (λ number runs has. apart.distinct account number runs (found_in account blobs there number runs has))
      (λ n one k two has also other. apart.apart account n one account k two (found_in account blobs there n one has) (found_in account blobs there k two also) (λ _ is. other is)))
      (λ account blobs other theirs there elsewhere two b its. not_so (has_block (runs_in theirs) b) (λ also.
      all_has nat_cmp_total map.nat_cmp-IsAntisymmetric (λ runs. runs) blobs ⊥ b its (λ n one has here.
      all_has nat_cmp_total map.nat_cmp-IsAntisymmetric (λ runs. runs) theirs ⊥ b also (λ k runs found there_too.
      clash (has_block runs b) there_too (apart.apart account n one other k runs (found_in account blobs there n one has) (found_in other theirs elsewhere k runs found) (λ is _. two is) b here)))))
