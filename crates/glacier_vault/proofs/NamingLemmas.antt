-- The archives that jobs name: gathered one after another, looked up, and after a change of the jobs.
use Rattle.std.specs.Prelude.{◌≡◌, ℕ, Bool, true, false, cond, ◌&&◌, ◌||◌, List, [], ◌∷◌, Option, Some, None, is_some, nat_eq}
use Rattle.std.specs.Cmp.{nat_cmp_total, eq_by_cmp_equiv}
use Rattle.std.specs.FinMap as map
use Rattle.std.specs.List.{list_any}
use Rattle.std.specs.Ordering.{nat_cmp, eq_by_cmp}
use Rattle.std.proofs.Common.{◌∙◌, ap, sym, refl, eq-eqb}
use Rattle.std.proofs.lemmas.Bool.{eqb-true}
use Rattle.glacier_base.specs.Maps.{changed_at}
use Rattle.glacier_base.proofs.Sorted.{tied}
use Rattle.glacier_vault.specs.Named.{Names, is_done, is_of, names, is_named, with_asked, with_name, named_by, named_in}
use Rattle.glacier_vault.specs.declared.job.Job.{Job}
use Rattle.glacier_vault.specs.declared.job.Stage.TheVariants.{Waiting}
use Rattle.glacier_vault.specs.declared.job.Work.{Work}
use Rattle.glacier_vault.specs.declared.job.Work.TheVariants as works
use Rattle.glacier_vault.specs.declared.state.VaultState.{VaultState}
use Rattle.glacier_vault.proofs.AnyLemmas.{any-empty, any-insert, any-changed_at}

-- two numbers are tied where they are equal
same_test : (n k : ℕ) → eq_by_cmp nat_cmp n k ≡ nat_eq k n
same_test n k = at (eq_by_cmp nat_cmp n k) refl (nat_eq k n) refl
  where
    at : (b : Bool) → eq_by_cmp nat_cmp n k ≡ b → (c : Bool) → nat_eq k n ≡ c → b ≡ c
    at true t true e = refl
    at false t false e = refl
    at true t false e = let same : k ≡ n = sym (map.nat_cmp-IsAntisymmetric n k (tied _ t)) in let is : nat_eq k n ≡ true = eq-eqb k n same in cc
    at false t true e =
        let same : k ≡ n = eqb-true k n e in
        let is : eq_by_cmp nat_cmp n n ≡ true = (eq_by_cmp_equiv nat_cmp_total).refl n in
        let no : false ≡ true = sym t ∙ ap (λ k. eq_by_cmp nat_cmp n k) same ∙ is in
        cc

-- one number more
pub contains-insert : {X : Type 0} (m : map.FinMap nat_cmp X) (k : ℕ) (x : X) (n : ℕ) → map.contains_key (map.insert m k x) n ≡ (map.contains_key m n || nat_eq k n)
contains-insert {X} m k x n = ap is_some (map.get-insert nat_cmp_total m k x n) ∙ ap (λ b. is_some (cond b (Some x) (map.get m n))) (same_test n k) ∙ at (nat_eq k n) (map.get m n)
  where
    at : (b : Bool) (r : Option X) → is_some (cond b (Some x) r) ≡ (is_some r || b)
    at true None = refl
    at true (Some y) = refl
    at false None = refl
    at false (Some y) = refl

pub contains-empty : (X : Type 0) (n : ℕ) → map.contains_key (map.empty {X = X} {R = nat_cmp}) n ≡ false
contains-empty X n = ap is_some (map.get-empty {X = X} nat_cmp n)

pub or-assoc : (a b c : Bool) → ((a || b) || c) ≡ (a || b || c)
or-assoc true b c = refl
or-assoc false b c = refl

pub or-false : (a : Bool) → (a || false) ≡ a
or-false true = refl
or-false false = refl

-- what is gathered of the first of some, beside the rest
pub gathered : (before after test here rest all : Bool) → after ≡ (before || here) → here ≡ test → (before || test || rest) ≡ all → (after || rest) ≡ all
gathered before after test here rest all step is invariant =
    ap (λ a. a || rest) step ∙ ap (λ h. (before || h) || rest) is ∙ or-assoc before test rest ∙ invariant

or-swap : (a b : Bool) → (a || b) ≡ (b || a)
or-swap true true = refl
or-swap true false = refl
or-swap false true = refl
or-swap false false = refl

contains-with_asked : (work : Work) (numbers : Names) (n : ℕ) → map.contains_key (with_asked work numbers) n ≡ (map.contains_key numbers n || is_of n work)
contains-with_asked (works.Archive archive size tree first end range) numbers n = contains-insert numbers archive tt n
contains-with_asked (works.Inventory csv) numbers n = sym (or-false (map.contains_key numbers n))

pub contains-with_name : (job : Job) (numbers : Names) (n : ℕ) → map.contains_key (with_name job numbers) n ≡ (map.contains_key numbers n || names n job)
contains-with_name job numbers n = at (is_done job.stage)
  where
    at : (done : Bool) → map.contains_key (cond done (with_asked job.work numbers) numbers) n ≡ (map.contains_key numbers n || (done && is_of n job.work))
    at true = contains-with_asked job.work numbers n
    at false = sym (or-false (map.contains_key numbers n))

contains-named_by : (jobs : List Job) (n : ℕ) → map.contains_key (named_by jobs) n ≡ list_any (names n) jobs
contains-named_by [] n = contains-empty (Unit {0}) n
contains-named_by (job ∷ jobs) n =
    contains-with_name job (named_by jobs) n
    ∙ ap (λ b. b || names n job) (contains-named_by jobs n)
    ∙ or-swap (list_any (names n) jobs) (names n job)

-- what is looked up is what a job names
pub contains-named_in : (jobs : map.FinMap nat_cmp Job) (n : ℕ) → map.contains_key (named_in jobs) n ≡ is_named jobs n
contains-named_in jobs n = contains-named_by (map.values jobs) n

pub contains_named : (vault : VaultState) → vault.named ≡ named_in vault.jobs → (n : ℕ) → map.contains_key vault.named n ≡ is_named vault.jobs n
contains_named vault kept n = ap (λ (numbers : Names). map.contains_key numbers n) kept ∙ contains-named_in vault.jobs n

same_names : (one other : Names) → ((n : ℕ) → map.contains_key one n ≡ map.contains_key other n) → one ≡ other
same_names one other same = map.same_map nat_cmp_total map.nat_cmp-IsAntisymmetric one other (λ n. at (map.get one n) (map.get other n) (same n))
  where
    at : (r s : Option (Unit {0})) → is_some r ≡ is_some s → r ≡ s
    at None None e = refl
    at None (Some y) e = cc
    at (Some x) None e = cc
    at (Some x) (Some y) e = refl

-- numbers of which each is there just where a job names it
pub names_are : (found : Names) (jobs : map.FinMap nat_cmp Job) → ((n : ℕ) → map.contains_key found n ≡ is_named jobs n) → found ≡ named_in jobs
names_are found jobs same = same_names found (named_in jobs) (λ n. same n ∙ sym (contains-named_in jobs n))

pub named_in-empty : named_in map.empty ≡ map.empty
named_in-empty = sym (names_are map.empty map.empty (λ n. contains-empty (Unit {0}) n ∙ sym (any-empty nat_cmp (names n))))

module _ (jobs : map.FinMap nat_cmp Job) (number : ℕ) where
  module _ (job : Job) (none : map.get jobs number ≡ None) where
    -- one job more
    pub named_in-insert : named_in (map.insert jobs number job) ≡ with_name job (named_in jobs)
    named_in-insert = sym (names_are (with_name job (named_in jobs)) (map.insert jobs number job)
        (λ n. contains-with_name job (named_in jobs) n ∙ ap (λ b. b || names n job) (contains-named_in jobs n) ∙ sym (any-insert nat_cmp_total (names n) jobs number job none)))

    -- one that waits names nothing
    pub named_in-waiting : job.stage ≡ Waiting → named_in (map.insert jobs number job) ≡ named_in jobs
    named_in-waiting waits = named_in-insert ∙ ap (λ stage. cond (is_done stage) (with_asked job.work (named_in jobs)) (named_in jobs)) waits

  -- a job that names what it named before
  pub named_in-changed_at : (g : Job → Job) (job : Job) → map.get jobs number ≡ Some job → ((n : ℕ) → names n (g job) ≡ names n job) → named_in (changed_at g jobs number) ≡ named_in jobs
  named_in-changed_at g job there same =
      names_are (named_in (changed_at g jobs number)) jobs (λ n. contains-named_in (changed_at g jobs number) n ∙ any-changed_at nat_cmp_total (names n) jobs number g job there (same n))
