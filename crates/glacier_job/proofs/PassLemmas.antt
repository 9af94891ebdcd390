-- What a moment leaves of the jobs of a vault, and of its held archives.
use Rattle.std.specs.Prelude.{◌≡◌, ℕ, ◌≤◌, ◌+◌, nat_eq, nat_le, length, Bool, true, false, not, cond, ◌&&◌, ◌||◌, List, [], ◌∷◌, map as each, filter}
use Rattle.std.specs.Cmp.{nat_cmp_total}
use Rattle.std.specs.FinMap as map
use Rattle.std.specs.declared.cmp.Ordering.{Ordering}
use Rattle.std.specs.List.{list_any}
use Rattle.std.specs.Map.{values_of}
use Rattle.std.proofs.Common.{◌∙◌, ap, sym, refl, arith}
use Rattle.std.proofs.lemmas.Bool.{eqb-true, leb-true, le-leb}
use Rattle.glacier_base.specs.Maps.{map_values, where_entries}
use Rattle.glacier_base.proofs.Changed.{from_entries-entries}
use Rattle.glacier_base.proofs.Listed.{entries-map_values, entries-where_entries}
use Rattle.glacier_vault.specs.Named.{is_named, is_waiting, names}
use Rattle.glacier_vault.specs.Totals.{Archives}
use Rattle.glacier_vault.specs.declared.archive.Archive.{Archive}
use Rattle.glacier_vault.specs.declared.due.TheConstants.{DAY}
use Rattle.glacier_vault.specs.declared.job.Job.{Job}
use Rattle.glacier_vault.specs.declared.job.Stage.{Stage}
use Rattle.glacier_vault.specs.declared.job.Stage.TheVariants.{Waiting, Failed, Done}
use Rattle.glacier_vault.specs.declared.job.Work.{Work}
use Rattle.glacier_vault.specs.declared.job.Work.TheVariants as works
use Rattle.glacier_vault.specs.declared.state.VaultState.{VaultState}
use Rattle.glacier_job.specs.Naming.{names_at}
use Rattle.glacier_job.specs.Pass.{outcome, settled, is_past, has_ended, jobs_after, dropped}

and-true : (b : Bool) → (b && true) ≡ b
and-true true = refl
and-true false = refl

and-false : (b : Bool) → (b && false) ≡ false
and-false true = refl
and-false false = refl

-- a test of what is left of changed values
list_any-left : {K X : Type 0} (test : X → Bool) (stays : X → Bool) (f : X → X) (es : List (K × X))
    → list_any test (values_of (filter (λ e. stays e.1) (each (λ e. (e.0, f e.1)) es))) ≡ list_any (λ x. test (f x) && stays (f x)) (values_of es)
list_any-left test stays f [] = refl
list_any-left {K} {X} test stays f (e ∷ es) = at (stays (f e.1)) (list_any-left test stays f es)
  where
    left : List (K × X)
    left = filter (λ e. stays e.1) (each (λ e. (e.0, f e.1)) es)

    rest : Bool
    rest = list_any (λ x. test (f x) && stays (f x)) (values_of es)

    at : (s : Bool) → list_any test (values_of left) ≡ rest → list_any test (values_of (cond s ((e.0, f e.1) ∷ left) left)) ≡ ((test (f e.1) && s) || rest)
    at true later = ap (λ r. test (f e.1) || r) later ∙ ap (λ b. b || rest) (sym (and-true (test (f e.1))))
    at false later = later ∙ ap (λ b. b || rest) (sym (and-false (test (f e.1))))

-- the jobs that are left, in their order
pub entries-jobs_after : (m : ℕ) (vault : VaultState) → map.entries (jobs_after m vault) ≡ filter (λ e. not (has_ended m e.1)) (each (λ e. (e.0, settled m vault.archives e.1)) (map.entries vault.jobs))
entries-jobs_after m vault =
    entries-where_entries nat_cmp_total (map_values (settled m vault.archives) vault.jobs) (λ _ job. not (has_ended m job))
    ∙ ap (filter (λ e. not (has_ended m e.1))) (entries-map_values nat_cmp_total vault.jobs (settled m vault.archives))

-- which of them name an archive
pub is_named-jobs_after : (m : ℕ) (vault : VaultState) (number : ℕ) → is_named (jobs_after m vault) number ≡ list_any (names_at m vault.archives number) (map.values vault.jobs)
is_named-jobs_after m vault number =
    ap (λ es. list_any (names number) (values_of es)) (entries-jobs_after m vault)
    ∙ list_any-left (names number) (λ job. not (has_ended m job)) (settled m vault.archives) (map.entries vault.jobs)

-- what a job comes out as isn't waiting
pub outcome_settles : (archives : Archives) (work : Work) → is_waiting (outcome archives work) ≡ false
outcome_settles archives (works.Inventory csv) = refl
outcome_settles archives (works.Archive archive size tree first end range) =
    elim (map.contains_key archives archive) as (λ b. is_waiting (cond b (Done []) Failed) ≡ false) [ true ↦ refl | false ↦ refl ]

-- what isn't ready isn't a day past it
not_past : (m ready : ℕ) → nat_le ready m ≡ false → is_past m ready ≡ false
not_past m ready early = at (is_past m ready) refl
  where
    at : (b : Bool) → is_past m ready ≡ b → b ≡ false
    at true t =
        let past : ready + DAY ≤ m = leb-true (ready + DAY) m t in
        let due : nat_le ready m ≡ true = le-leb ready m (omega arith) in
        cc
    at false t = refl

-- a job that the moment settles, or that was settled, ends a day after it was ready
pub ended-settled : (m : ℕ) (archives : Archives) (job : Job) → has_ended m (settled m archives job) ≡ is_past m job.ready
ended-settled m archives job = at job.stage
  where
    waiting : (b : Bool) → nat_le job.ready m ≡ b → (not (is_waiting (cond b (outcome archives job.work) Waiting)) && is_past m job.ready) ≡ is_past m job.ready
    waiting true is = ap (λ w. not w && is_past m job.ready) (outcome_settles archives job.work)
    waiting false is = sym (not_past m job.ready is)

    at : (stage : Stage) → (not (is_waiting (elim stage [ Waiting ↦ cond (nat_le job.ready m) (outcome archives job.work) Waiting | Failed ↦ Failed | Done found ↦ Done found ])) && is_past m job.ready) ≡ is_past m job.ready
    at Waiting = waiting (nat_le job.ready m) refl
    at Failed = refl
    at (Done found) = refl

module _ {K X : Type 0} {R : K → K → Ordering} (m : map.FinMap R X) (none : nat_eq (map.len m) 0 ≡ true) where
  -- a map without values has no entries
  pub entries-none : map.entries m ≡ []
  entries-none = at (map.entries m) (sym (map.len-entries m) ∙ eqb-true (map.len m) 0 none)
    where
      at : (es : List (K × X)) → length es ≡ 0 → es ≡ []
      at [] e = refl
      at (e ∷ es) is = absurd (omega arith)

-- where nothing is held, nothing goes
pub dropped-none : (m : ℕ) (vault : VaultState) → nat_eq (map.len vault.held) 0 ≡ true → dropped m vault ≡ []
dropped-none m vault none = ap (λ es. each (λ e. e.1) (filter (λ e. not (is_named (jobs_after m vault) e.0)) es)) (entries-none vault.held none)
