-- What a moment takes from a total over the bodies of an account.
use Rattle.std.specs.Prelude.{◌≡◌, ℕ, ◌≤◌, ◌+◌, ◌-◌, Bool, true, false, not, cond, List, [], ◌∷◌, sum_by, map as each, filter}
use Rattle.std.specs.Cmp.{nat_cmp_total}
use Rattle.std.specs.Cmp.Lexicographic.{nat_list_cmp_total}
use Rattle.std.specs.FinMap as map
use Rattle.std.specs.Map.{values_of}
use Rattle.std.proofs.Common.{◌∙◌, ap, sym, refl, arith}
use Rattle.std.proofs.lemmas.List.Sums.{sum_by-cons}
use Rattle.glacier_base.specs.Maps.{map_values}
use Rattle.glacier_base.proofs.Listed.{entries-map_values, entries-where_entries}
use Rattle.glacier_vault.specs.Lawful.{IsLawful}
use Rattle.glacier_vault.specs.Named.{is_named}
use Rattle.glacier_vault.specs.Totals.{Weight, Vaults, Archives, vault_total, total, blocks, naming, each_upload, each_job, used_in, uploads_in, jobs_in}
use Rattle.glacier_vault.specs.declared.archive.Archive.{Archive}
use Rattle.glacier_vault.specs.declared.archive.Finished.{Finished}
use Rattle.glacier_vault.specs.declared.job.Job.{Job}
use Rattle.glacier_vault.specs.declared.lock.Lock.{Lock}
use Rattle.glacier_vault.specs.declared.state.AccountState.{AccountState}
use Rattle.glacier_vault.specs.declared.state.VaultState.{VaultState}
use Rattle.glacier_vault.proofs.TotalsLemmas.{lock_total-zero, sum_by-zero}
use Rattle.glacier_job.specs.Pass.{settled, is_past, has_ended, jobs_after, held_after, finished_after, lock_after, dropped, passed, room_in, ended_in}
use Rattle.glacier_job.proofs.PassLemmas.{ended-settled, entries-jobs_after}

module _ {K X : Type 0} (weigh : X → ℕ) where
  -- what passes a test and what doesn't are all
  pub sum_by-parts : (test : K × X → Bool) (es : List (K × X))
      → sum_by weigh (values_of (filter test es)) + sum_by weigh (each (λ e. e.1) (filter (λ e. not (test e)) es)) ≡ sum_by weigh (values_of es)
  sum_by-parts test [] = refl
  sum_by-parts test (e ∷ es) = at (test e) (sum_by-parts test es)
    where
      yes : List (K × X)
      yes = filter test es

      no : List (K × X)
      no = filter (λ e. not (test e)) es

      passing : List X
      passing = values_of yes

      failing : List X
      failing = each (λ e. e.1) no

      at : (b : Bool) → sum_by weigh passing + sum_by weigh failing ≡ sum_by weigh (values_of es)
          → sum_by weigh (values_of (cond b (e ∷ yes) yes)) + sum_by weigh (each (λ e. e.1) (cond (not b) (e ∷ no) no)) ≡ sum_by weigh (e.1 ∷ values_of es)
      at true later =
          let goal : sum_by weigh (e.1 ∷ passing) + sum_by weigh failing ≡ sum_by weigh (e.1 ∷ values_of es) = omega (arith, later, sum_by-cons weigh e.1 passing, sum_by-cons weigh e.1 (values_of es)) in
          goal
      at false later =
          let goal : sum_by weigh passing + sum_by weigh (e.1 ∷ failing) ≡ sum_by weigh (e.1 ∷ values_of es) = omega (arith, later, sum_by-cons weigh e.1 failing, sum_by-cons weigh e.1 (values_of es)) in
          goal

-- a sum of sums of two parts
sum_by-two : {K X : Type 0} (f g h : X → ℕ) (after : X → X) → ((x : X) → f (after x) + g x ≡ h x) → (es : List (K × X))
    → sum_by f (values_of (each (λ e. (e.0, after e.1)) es)) + sum_by g (values_of es) ≡ sum_by h (values_of es)
sum_by-two f g h after one [] = refl
sum_by-two {X = X} f g h after one (e ∷ es) =
    let changed : List X = values_of (each (λ e. (e.0, after e.1)) es) in
    let goal : sum_by f (after e.1 ∷ changed) + sum_by g (e.1 ∷ values_of es) ≡ sum_by h (e.1 ∷ values_of es) =
    omega (arith, one e.1, sum_by-two f g h after one es, sum_by-cons f (after e.1) changed, sum_by-cons g e.1 (values_of es), sum_by-cons h e.1 (values_of es)) in
    goal

-- a sum of what is as great for each
sum_by-same : {X : Type 0} (f g : X → ℕ) → ((x : X) → f x ≡ g x) → (xs : List X) → sum_by f xs ≡ sum_by g xs
sum_by-same f g same [] = refl
sum_by-same f g same (x ∷ xs) =
    let goal : sum_by f (x ∷ xs) ≡ sum_by g (x ∷ xs) = omega (arith, same x, sum_by-same f g same xs, sum_by-cons f x xs, sum_by-cons g x xs) in
    goal

either_zero : (b : Bool) → ◌≡◌ {A = ℕ} (cond b 0 0) 0
either_zero true = refl
either_zero false = refl

-- a weight that no settling of a job changes, and that counts neither finished uploads nor locks
pub record IsSteady (w : Weight) : Type 0 where
  pub job : (m : ℕ) (archives : Archives) (job : Job) → w.job (settled m archives job) ≡ w.job job
  pub finished : (finished : Finished) → w.finished finished ≡ 0
  pub lock : (lock : Lock) → w.lock lock ≡ 0

blocks_is_steady : IsSteady blocks
blocks_is_steady = record { job = λ m archives job. refl; finished = λ finished. refl; lock = λ lock. refl }

pub naming_is_steady : (blob : ℕ) → IsSteady (naming blob)
naming_is_steady blob = record { job = λ m archives job. refl; finished = λ finished. refl; lock = λ lock. refl }

jobs_are_steady : IsSteady each_job
jobs_are_steady = record { job = λ m archives job. refl; finished = λ finished. refl; lock = λ lock. refl }

uploads_are_steady : IsSteady each_upload
uploads_are_steady = record { job = λ m archives job. refl; finished = λ finished. refl; lock = λ lock. refl }

-- what each job that ends weighs
abbrev pub ended_weight : ℕ → (Job → ℕ) → Job → ℕ
ended_weight m weigh job = cond (is_past m job.ready) (weigh job) 0

-- what is given back of a vault
abbrev pub dropped_total : ℕ → Weight → VaultState → ℕ
dropped_total m w vault = sum_by w.archive (dropped m vault) + sum_by (ended_weight m w.job) (map.values vault.jobs)

module _ (m : ℕ) (w : Weight) (steady : IsSteady w) where
  held_parts : (vault : VaultState) → sum_by w.archive (map.values (held_after m vault)) + sum_by w.archive (dropped m vault) ≡ sum_by w.archive (map.values vault.held)
  held_parts vault =
      ap (λ es. sum_by w.archive (values_of es) + sum_by w.archive (dropped m vault)) (entries-where_entries nat_cmp_total vault.held (λ number _. is_named (jobs_after m vault) number))
      ∙ sum_by-parts w.archive (λ e. is_named (jobs_after m vault) e.0) (map.entries vault.held)

  -- the jobs that stay and those that end are all
  jobs_parts : (archives : Archives) (es : List (ℕ × Job)) → sum_by w.job (values_of (filter (λ e. not (has_ended m e.1)) (each (λ e. (e.0, settled m archives e.1)) es))) + sum_by (ended_weight m w.job) (values_of es) ≡ sum_by w.job (values_of es)
  jobs_parts archives [] = refl
  jobs_parts archives (e ∷ es) = at (has_ended m (settled m archives e.1)) refl (jobs_parts archives es)
    where
      left : List (ℕ × Job)
      left = filter (λ e. not (has_ended m e.1)) (each (λ e. (e.0, settled m archives e.1)) es)

      stays : List Job
      stays = values_of left

      here : ℕ × Job
      here = (e.0, settled m archives e.1)

      at : (b : Bool) → has_ended m (settled m archives e.1) ≡ b → sum_by w.job stays + sum_by (ended_weight m w.job) (values_of es) ≡ sum_by w.job (values_of es)
          → sum_by w.job (values_of (cond (not b) (here ∷ left) left)) + sum_by (ended_weight m w.job) (e.1 ∷ values_of es) ≡ sum_by w.job (e.1 ∷ values_of es)
      at true is later =
          let past : cond (is_past m e.1.ready) (w.job e.1) 0 ≡ w.job e.1 = ap (λ b. cond b (w.job e.1) 0) (sym (ended-settled m archives e.1) ∙ is) in
          let goal : sum_by w.job stays + sum_by (ended_weight m w.job) (e.1 ∷ values_of es) ≡ sum_by w.job (e.1 ∷ values_of es) =
          omega (arith, later, past, sum_by-cons (ended_weight m w.job) e.1 (values_of es), sum_by-cons w.job e.1 (values_of es)) in
          goal
      at false is later =
          let past : cond (is_past m e.1.ready) (w.job e.1) 0 ≡ 0 = ap (λ b. cond b (w.job e.1) 0) (sym (ended-settled m archives e.1) ∙ is) in
          let goal : sum_by w.job (here.1 ∷ stays) + sum_by (ended_weight m w.job) (e.1 ∷ values_of es) ≡ sum_by w.job (e.1 ∷ values_of es) =
          omega (arith, later, past, steady.job m archives e.1, sum_by-cons (ended_weight m w.job) e.1 (values_of es), sum_by-cons w.job e.1 (values_of es), sum_by-cons w.job here.1 stays) in
          goal

  jobs_after_parts : (vault : VaultState) → sum_by w.job (map.values (jobs_after m vault)) + sum_by (ended_weight m w.job) (map.values vault.jobs) ≡ sum_by w.job (map.values vault.jobs)
  jobs_after_parts vault =
      ap (λ es. sum_by w.job (values_of es) + sum_by (ended_weight m w.job) (map.values vault.jobs)) (entries-jobs_after m vault)
      ∙ jobs_parts vault.archives (map.entries vault.jobs)

  pub vault_total-passed : (vault : VaultState) → vault_total w (passed m vault) + dropped_total m w vault ≡ vault_total w vault
  vault_total-passed vault =
      let finished = sum_by-zero w.finished steady.finished (map.values vault.finished) in
      let finished_left = sum_by-zero w.finished steady.finished (map.values (finished_after m vault.finished)) in
      let lock = lock_total-zero w steady.lock vault.lock in
      let lock_left = lock_total-zero w steady.lock (lock_after m vault.lock) in
      omega (arith, held_parts vault, jobs_after_parts vault, finished, finished_left, lock, lock_left)

  pub total-pass : (vaults : Vaults) → total w (map_values (passed m) vaults) + sum_by (dropped_total m w) (map.values vaults) ≡ total w vaults
  total-pass vaults =
      ap (λ es. sum_by (vault_total w) (values_of es) + sum_by (dropped_total m w) (map.values vaults)) (entries-map_values nat_list_cmp_total vaults (passed m))
      ∙ sum_by-two (vault_total w) (dropped_total m w) (vault_total w) (passed m) vault_total-passed (map.entries vaults)

module _ (m : ℕ) where
  no_job : (weigh : Job → ℕ) → ((job : Job) → weigh job ≡ 0) → (jobs : List Job) → sum_by (ended_weight m weigh) jobs ≡ 0
  no_job weigh none jobs = sum_by-zero (ended_weight m weigh) (λ job. ap (λ n. cond (is_past m job.ready) n 0) (none job) ∙ either_zero (is_past m job.ready)) jobs

  no_archive : (archives : List Archive) → sum_by (λ (archive : Archive). 0) archives ≡ 0
  no_archive archives = sum_by-zero (λ (archive : Archive). 0) (λ archive. refl) archives

  -- what a weight without jobs loses: that of the held archives that go
  pub dropped_sum : (w : Weight) → ((job : Job) → w.job job ≡ 0) → (vaults : List VaultState) → sum_by (dropped_total m w) vaults ≡ sum_by (λ vault. sum_by w.archive (dropped m vault)) vaults
  dropped_sum w none vaults = sum_by-same (dropped_total m w) (λ vault. sum_by w.archive (dropped m vault))
      (λ vault. omega (arith, no_job w.job none (map.values vault.jobs))) vaults

  -- what the number of jobs loses: those that end
  ended_sum : (vaults : List VaultState) → sum_by (dropped_total m each_job) vaults ≡ sum_by (ended_in m) vaults
  ended_sum vaults = sum_by-same (dropped_total m each_job) (ended_in m) (λ vault. omega (arith, no_archive (dropped m vault))) vaults

  -- the number of open uploads loses nothing
  uploads_sum : (vaults : List VaultState) → sum_by (dropped_total m each_upload) vaults ≡ 0
  uploads_sum vaults = sum_by-zero (dropped_total m each_upload) (λ vault. omega (arith, no_archive (dropped m vault), no_job (λ _. 0) (λ _. refl) (map.values vault.jobs))) vaults

module _ (a : AccountState) (m : ℕ) (lawful : IsLawful a) where
  pub room_within : sum_by (room_in m) (map.values a.vaults) ≤ a.used
  room_within = omega (arith, lawful.used, total-pass m blocks blocks_is_steady a.vaults, dropped_sum m blocks (λ _. refl) (map.values a.vaults))

  pub used-pass : a.used - sum_by (room_in m) (map.values a.vaults) ≡ used_in (map_values (passed m) a.vaults)
  used-pass = omega (arith, lawful.used, total-pass m blocks blocks_is_steady a.vaults, dropped_sum m blocks (λ _. refl) (map.values a.vaults))

  pub ended_within : sum_by (ended_in m) (map.values a.vaults) ≤ a.jobs
  ended_within = omega (arith, lawful.jobs, total-pass m each_job jobs_are_steady a.vaults, ended_sum m (map.values a.vaults))

  pub jobs-pass : a.jobs - sum_by (ended_in m) (map.values a.vaults) ≡ jobs_in (map_values (passed m) a.vaults)
  jobs-pass = omega (arith, lawful.jobs, total-pass m each_job jobs_are_steady a.vaults, ended_sum m (map.values a.vaults))

  pub uploads-pass : a.uploads ≡ uploads_in (map_values (passed m) a.vaults)
  uploads-pass = omega (arith, lawful.uploads, total-pass m each_upload uploads_are_steady a.vaults, uploads_sum m (map.values a.vaults))
