-- How many bytes the records of a vault take once a moment has settled what is in it.
use Rattle.std.specs.Prelude.{◌≡◌, ◌≤◌, ℕ, ◌+◌, Bool, true, false, not, cond, List, [], ◌∷◌, length, Some, sum_by, map as each, filter}
use Rattle.std.specs.Cmp.{nat_cmp_total}
use Rattle.std.specs.FinMap as map
use Rattle.std.specs.Map.{values_of}
use Rattle.std.specs.Ordering.{nat_cmp}
use Rattle.std.proofs.Common.{◌∙◌, ap, sym, refl, subst, arith}
use Rattle.std.proofs.lemmas.List.Sums.{sum_by-cons}
use Rattle.glacier_base.specs.Maps.{changed_at, map_values, where_entries}
use Rattle.glacier_base.proofs.Listed.{entries-where_entries}
use Rattle.glacier_base.proofs.Sums.{sum_by-changed_at}
use Rattle.glacier_vault.specs.Lengths.{lengths, archive_length, finished_length, job_length, snapshot_length}
use Rattle.glacier_vault.specs.Named.{Names, named_in}
use Rattle.glacier_vault.specs.Totals.{Vaults, Archives, vault_total}
use Rattle.glacier_vault.specs.declared.archive.Finished.{Finished}
use Rattle.glacier_vault.specs.declared.job.Job.{Job}
use Rattle.glacier_vault.specs.declared.state.VaultState.{VaultState}
use Rattle.glacier_vault.proofs.LengthLemmas.{length_within, length-changed_at}
use Rattle.glacier_vault.proofs.NamingLemmas.{contains-named_in}
use Rattle.glacier_job.specs.Pass.{settled, has_ended, is_past, jobs_after, held_after, finished_after, passed}
use Rattle.glacier_job.proofs.PassTotals.{sum_by-parts}

-- what stays and what goes are all
sum_by-stay : {K X : Type 0} (weigh : X → ℕ) (goes : X → Bool) (es : List (K × X))
    → sum_by weigh (values_of (filter (λ e. not (goes e.1)) es)) + sum_by weigh (filter goes (values_of es)) ≡ sum_by weigh (values_of es)
sum_by-stay weigh goes [] = refl
sum_by-stay {K} {X} weigh goes (e ∷ es) = at (goes e.1) (sum_by-stay weigh goes es)
  where
    stays : List (K × X)
    stays = filter (λ e. not (goes e.1)) es

    staying : List X
    staying = values_of stays

    going : List X
    going = filter goes (values_of es)

    at : (b : Bool) → sum_by weigh staying + sum_by weigh going ≡ sum_by weigh (values_of es)
        → sum_by weigh (values_of (cond (not b) (e ∷ stays) stays)) + sum_by weigh (cond b (e.1 ∷ going) going) ≡ sum_by weigh (e.1 ∷ values_of es)
    at true later =
        let goal : sum_by weigh staying + sum_by weigh (e.1 ∷ going) ≡ sum_by weigh (e.1 ∷ values_of es) = omega (arith, later, sum_by-cons weigh e.1 going, sum_by-cons weigh e.1 (values_of es)) in
        goal
    at false later =
        let goal : sum_by weigh (e.1 ∷ staying) + sum_by weigh going ≡ sum_by weigh (e.1 ∷ values_of es) = omega (arith, later, sum_by-cons weigh e.1 staying, sum_by-cons weigh e.1 (values_of es)) in
        goal

stay_in : {X : Type 0} (weigh : X → ℕ) (goes : X → Bool) (xs : map.FinMap nat_cmp X)
    → sum_by weigh (map.values (where_entries (λ _ x. not (goes x)) xs)) + sum_by weigh (filter goes (map.values xs)) ≡ sum_by weigh (map.values xs)
stay_in weigh goes xs =
    ap (λ es. sum_by weigh (values_of es) + sum_by weigh (filter goes (map.values xs))) (entries-where_entries nat_cmp_total xs (λ _ x. not (goes x)))
    ∙ sum_by-stay weigh goes (map.entries xs)

module _ (n m : ℕ) where
  -- a job that is settled
  pub length-settled : (archives : Archives) (jobs : map.FinMap nat_cmp Job) (number : ℕ) (job : Job) → map.get jobs number ≡ Some job
      → sum_by (job_length n) (map.values (changed_at (settled m archives) jobs number)) + job_length n job ≡ sum_by (job_length n) (map.values jobs) + job_length n (settled m archives job)
  length-settled archives jobs number job there = sum_by-changed_at nat_cmp_total (job_length n) map.nat_cmp-IsAntisymmetric jobs number (settled m archives) job there

  -- jobs that stay, and those that end
  pub length-ended : (jobs : map.FinMap nat_cmp Job)
      → sum_by (job_length n) (map.values (where_entries (λ _ job. not (has_ended m job)) jobs)) + sum_by (job_length n) (filter (has_ended m) (map.values jobs)) ≡ sum_by (job_length n) (map.values jobs)
  length-ended jobs = stay_in (job_length n) (has_ended m) jobs

  -- finished uploads that stay, and those that end
  pub length-past : (finished : map.FinMap nat_cmp Finished)
      → sum_by (λ _. finished_length n) (map.values (finished_after m finished)) + sum_by (λ _. finished_length n) (filter (λ upload. is_past m upload.at) (map.values finished))
      ≡ sum_by (λ _. finished_length n) (map.values finished)
  length-past finished = stay_in (λ _. finished_length n) (λ upload. is_past m upload.at) finished

-- held archives that stay, and those that go
pub length-unnamed : (n : ℕ) (stays : ℕ → Bool) (held : Archives)
    → sum_by (archive_length n) (map.values (where_entries (λ number _. stays number) held)) + sum_by (archive_length n) (each (λ e. e.1) (filter (λ e. not (stays e.0)) (map.entries held)))
    ≡ sum_by (archive_length n) (map.values held)
length-unnamed n stays held =
    ap (λ es. sum_by (archive_length n) (values_of es) + sum_by (archive_length n) (each (λ e. e.1) (filter (λ e. not (stays e.0)) (map.entries held)))) (entries-where_entries nat_cmp_total held (λ number _. stays number))
    ∙ sum_by-parts (archive_length n) (λ e. stays e.0) (map.entries held)

module _ (n m : ℕ) (vault : VaultState) (ready kept : map.FinMap nat_cmp Job) (settles : ready ≡ map_values (settled m vault.archives) vault.jobs) where
  -- the jobs that stay, and the held archives that they name, are those of the vault at the moment
  pub jobs_stay : sum_by (job_length n) (map.values (where_entries (λ _ job. not (has_ended m job)) ready)) ≡ sum_by (job_length n) (map.values (jobs_after m vault))
  jobs_stay = ap (λ jobs. sum_by (job_length n) (map.values (where_entries (λ _ job. not (has_ended m job)) jobs))) settles

  module _ (keeps : kept ≡ where_entries (λ _ job. not (has_ended m job)) ready) (numbers : Names) (gathers : numbers ≡ named_in kept) where
    kept_is : kept ≡ jobs_after m vault
    kept_is = keeps ∙ ap (λ jobs. where_entries (λ _ job. not (has_ended m job)) jobs) settles

    pub names_left : numbers ≡ named_in (jobs_after m vault)
    names_left = gathers ∙ ap named_in kept_is

    pub held_left : where_entries (λ number _. map.contains_key numbers number) vault.held ≡ held_after m vault
    held_left =
        ap (λ (found : Names). where_entries (λ number _. map.contains_key found number) vault.held) names_left
        ∙ ap (λ (test : ℕ → Bool). where_entries (λ number _. test number) vault.held) (λ i number. contains-named_in (jobs_after m vault) number i)

    pub held_stay : sum_by (archive_length n) (map.values (where_entries (λ number _. map.contains_key numbers number) vault.held)) ≡ sum_by (archive_length n) (map.values (held_after m vault))
    held_stay = ap (λ held. sum_by (archive_length n) (map.values held)) held_left

module _ (vaults : Vaults) (name : List ℕ) (vault : VaultState) (there : map.get vaults name ≡ Some vault) (n before : ℕ) (is : n ≡ length name) (all : before ≡ snapshot_length vaults) where
  pub length_there : vault_total (lengths n) vault ≤ before
  length_there = subst (λ k. vault_total (lengths k) vault ≤ before) (sym is) (omega (arith, all, length_within vaults name vault there))

  -- a vault that is settled
  pub length-passed : (m left : ℕ) → left + vault_total (lengths n) vault ≡ before + vault_total (lengths n) (passed m vault) → left ≡ snapshot_length (changed_at (passed m) vaults name)
  length-passed m left e =
      let there_too = subst (λ k. left + vault_total (lengths k) vault ≡ before + vault_total (lengths k) (passed m vault)) is e in
      omega (arith, all, there_too, length-changed_at vaults name vault there (passed m))
