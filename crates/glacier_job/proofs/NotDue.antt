-- A moment at which nothing is due changes nothing but the last moment.
use Rattle.std.specs.Prelude.{◌≡◌, ℕ, Bool, true, false, not, cond, ◌&&◌, ◌||◌, List, [], ◌∷◌, ◌++◌, Option, Some, None, IfSome, nat_le, map as each, filter}
use Rattle.std.specs.Cmp.{nat_cmp_total}
use Rattle.std.specs.Cmp.Lexicographic.{nat_list_cmp_total, slice_cmp}
use Rattle.std.specs.FinMap as map
use Rattle.std.specs.List.{list_any, flat_map}
use Rattle.std.specs.Map.{values_of}
use Rattle.std.specs.Option.{option_map}
use Rattle.std.specs.Ordering.{nat_cmp}
use Rattle.std.proofs.Common.{◌∙◌, ap, sym, refl}
use Rattle.glacier_base.specs.Maps.{map_values, where_entries}
use Rattle.glacier_base.proofs.Changed.{from_entries-entries, get-map_values}
use Rattle.glacier_base.proofs.Finite.{bytes_cmp-IsAntisymmetric}
use Rattle.glacier_vault.specs.Due.{content_due, due_in}
use Rattle.glacier_vault.specs.Lawful.{IsLawful, IsLawfulVault}
use Rattle.glacier_vault.specs.Lengths.{snapshot_length}
use Rattle.glacier_vault.specs.Named.{is_named, is_waiting, named_in, blobs_of}
use Rattle.glacier_vault.specs.Totals.{Archives, used_in, uploads_in, jobs_in}
use Rattle.glacier_vault.specs.declared.archive.Finished.{Finished}
use Rattle.glacier_vault.specs.declared.job.Job.{Job}
use Rattle.glacier_vault.specs.declared.job.Stage.{Stage}
use Rattle.glacier_vault.specs.declared.job.Stage.TheVariants.{Waiting, Failed, Done}
use Rattle.glacier_vault.specs.declared.lock.Lock.{Lock}
use Rattle.glacier_vault.specs.declared.state.AccountState.{AccountState}
use Rattle.glacier_vault.specs.declared.state.VaultState.{VaultState}
use Rattle.glacier_vault.proofs.Later.{weaker}
use Rattle.glacier_vault.proofs.ValuesLemmas.{list_any-values}
use Rattle.glacier_job.specs.Pass.{outcome, settled, is_past, has_ended, jobs_after, held_after, finished_after, lock_after, left_in, passed, pass, dropped, freed, job_is_due, lock_is_due, vault_is_due, pass_is_event}

-- a vault keeps what its content says
pub record HasKept (vault : VaultState) : Type 0 where
  pub due : vault.due ≡ content_due vault
  pub named : vault.named ≡ named_in vault.jobs

-- neither of two tests holds
neither : (a b : Bool) → (a || b) ≡ false → (a ≡ false) × (b ≡ false)
neither true b e = cc
neither false b e = (refl, e)

module _ {X : Type 0} (due : X → Bool) where
  -- what f leaves as it is where nothing is due, a list without anything due keeps
  each_same : {K : Type 0} (f : X → X) → ((x : X) → due x ≡ false → f x ≡ x) → (es : List (K × X)) → list_any due (values_of es) ≡ false → each (λ e. (e.0, f e.1)) es ≡ es
  each_same f same [] none = refl
  each_same f same (e ∷ es) none =
      let parts = neither (due e.1) (list_any due (values_of es)) none in
      let here : f e.1 ≡ e.1 = same e.1 parts.0 in
      let later = each_same f same es parts.1 in
      λ i. (e.0, here i) ∷ later i

  -- and it passes a test that only what is due fails
  filter_same : {Y : Type 0} (of : Y → X) (stays : Y → Bool) → ((y : Y) → due (of y) ≡ false → stays y ≡ true) → (ys : List Y) → list_any due (each of ys) ≡ false → filter stays ys ≡ ys
  filter_same of stays kept [] none = refl
  filter_same of stays kept (y ∷ ys) none =
      let parts = neither (due (of y)) (list_any due (each of ys)) none in
      ap (λ b. cond b (y ∷ filter stays ys) (filter stays ys)) (kept y parts.0) ∙ ap (λ t. y ∷ t) (filter_same of stays kept ys parts.1)

  filter_none : {Y : Type 0} (of : Y → X) (goes : Y → Bool) → ((y : Y) → due (of y) ≡ false → goes y ≡ false) → (ys : List Y) → list_any due (each of ys) ≡ false → filter goes ys ≡ []
  filter_none of goes kept [] none = refl
  filter_none of goes kept (y ∷ ys) none =
      let parts = neither (due (of y)) (list_any due (each of ys)) none in
      ap (λ b. cond b (y ∷ filter goes ys) (filter goes ys)) (kept y parts.0) ∙ filter_none of goes kept ys parts.1

not_false : (b : Bool) → b ≡ false → not b ≡ true
not_false b e = ap not e

module _ (m : ℕ) where
  module _ (archives : Archives) where
    settled_same : (job : Job) → job_is_due m job ≡ false → settled m archives job ≡ job
    settled_same job none = λ i. record { created = job.created; ready = job.ready; tier = job.tier; description = job.description; work = job.work; stage = stage_same job.stage none i }
      where
        stage_same : (stage : Stage) → cond (is_waiting stage) (nat_le job.ready m) (is_past m job.ready) ≡ false
            → elim stage [ Waiting ↦ cond (nat_le job.ready m) (outcome archives job.work) Waiting | Failed ↦ Failed | Done found ↦ Done found ] ≡ stage
        stage_same Waiting e = ap (λ b. cond b (outcome archives job.work) Waiting) e
        stage_same Failed e = refl
        stage_same (Done found) e = refl

  not_ended : (job : Job) → job_is_due m job ≡ false → has_ended m job ≡ false
  not_ended job none = at (is_waiting job.stage) none
    where
      at : (b : Bool) → cond b (nat_le job.ready m) (is_past m job.ready) ≡ false → (not b && is_past m job.ready) ≡ false
      at true e = refl
      at false e = e

  lock_same : (lock : Option Lock) → lock_is_due m lock ≡ false → lock_after m lock ≡ lock
  lock_same None e = refl
  lock_same (Some lock) e = ap (λ b. cond b None (Some lock)) e

  module _ (vault : VaultState) (none : vault_is_due m vault ≡ false) where
    jobs_due : Bool
    jobs_due = list_any (job_is_due m) (map.values vault.jobs)

    -- none of the four is due
    first_three : ((list_any (job_is_due m) (map.values vault.jobs) || list_any (λ (upload : Finished). is_past m upload.at) (map.values vault.finished) || lock_is_due m vault.lock) ≡ false) × (list_any (λ number. not (is_named vault.jobs number)) (map.keys vault.held) ≡ false)
    first_three = neither _ _ none

    first_two : ((list_any (job_is_due m) (map.values vault.jobs) || list_any (λ (upload : Finished). is_past m upload.at) (map.values vault.finished)) ≡ false) × (lock_is_due m vault.lock ≡ false)
    first_two = neither _ _ first_three.0

    jobs_not_due : (list_any (job_is_due m) (map.values vault.jobs) ≡ false) × (list_any (λ (upload : Finished). is_past m upload.at) (map.values vault.finished) ≡ false)
    jobs_not_due = neither _ _ first_two.0

    jobs_same : jobs_after m vault ≡ vault.jobs
    jobs_same =
        let kept : map_values (settled m vault.archives) vault.jobs ≡ vault.jobs =
        ap (λ es. map.from_entries es) (each_same (job_is_due m) (settled m vault.archives) (settled_same vault.archives) (map.entries vault.jobs) jobs_not_due.0) ∙ from_entries-entries nat_cmp_total map.nat_cmp-IsAntisymmetric vault.jobs in
        ap (where_entries (λ _ job. not (has_ended m job))) kept
        ∙ ap (λ es. map.from_entries es) (filter_same (job_is_due m) (λ (e : ℕ × Job). e.1) (λ e. not (has_ended m e.1)) (λ e d. ap not (not_ended e.1 d)) (map.entries vault.jobs) jobs_not_due.0)
        ∙ from_entries-entries nat_cmp_total map.nat_cmp-IsAntisymmetric vault.jobs

    unnamed : ℕ → Bool
    unnamed number = not (is_named vault.jobs number)

    stays_named : (b : Bool) → not b ≡ false → b ≡ true
    stays_named true e = refl
    stays_named false e = cc

    held_same : held_after m vault ≡ vault.held
    held_same =
        ap (λ jobs. where_entries (λ number _. is_named jobs number) vault.held) jobs_same
        ∙ ap (λ es. map.from_entries es) (filter_same (λ number. not (is_named vault.jobs number)) (λ e. e.0) (λ e. is_named vault.jobs e.0) (λ e d. stays_named _ d) (map.entries vault.held) first_three.1)
        ∙ from_entries-entries nat_cmp_total map.nat_cmp-IsAntisymmetric vault.held

    finished_same : finished_after m vault.finished ≡ vault.finished
    finished_same =
        ap (λ es. map.from_entries es) (filter_same (λ (upload : Finished). is_past m upload.at) (λ (e : ℕ × Finished). e.1) (λ e. not (is_past m e.1.at)) (λ e d. ap not d) (map.entries vault.finished) jobs_not_due.1)
        ∙ from_entries-entries nat_cmp_total map.nat_cmp-IsAntisymmetric vault.finished

    named_same : vault.named ≡ named_in vault.jobs → named_in (jobs_after m vault) ≡ vault.named
    named_same kept = ap named_in jobs_same ∙ sym kept

    left_same : vault.named ≡ named_in vault.jobs → left_in m vault ≡ vault
    left_same kept = λ i. record {
      created = vault.created;
      archives = vault.archives;
      bytes = vault.bytes;
      held = held_same i;
      uploads = vault.uploads;
      finished = finished_same i;
      jobs = jobs_same i;
      named = named_same kept i;
      lock = lock_same vault.lock first_two.1 i;
      due = vault.due;
    }

    pub passed_same : HasKept vault → passed m vault ≡ vault
    passed_same kept = λ i. record {
      created = vault.created;
      archives = vault.archives;
      bytes = vault.bytes;
      held = held_same i;
      uploads = vault.uploads;
      finished = finished_same i;
      jobs = jobs_same i;
      named = named_same kept.named i;
      lock = lock_same vault.lock first_two.1 i;
      due = (ap (λ v. content_due v) (left_same kept.named) ∙ sym kept.due) i;
    }

    pub dropped_none : dropped m vault ≡ []
    dropped_none =
        ap (λ jobs. each (λ e. e.1) (filter (λ e. not (is_named jobs e.0)) (map.entries vault.held))) jobs_same
        ∙ ap (each (λ e. e.1)) (filter_none (λ number. not (is_named vault.jobs number)) (λ e. e.0) (λ e. not (is_named vault.jobs e.0)) (λ e d. d) (map.entries vault.held) first_three.1)

  none_freed : (vaults : List VaultState) → list_any (vault_is_due m) vaults ≡ false → flat_map (λ vault. blobs_of (dropped m vault)) vaults ≡ []
  none_freed [] none = refl
  none_freed (vault ∷ vaults) none =
      let parts = neither (vault_is_due m vault) (list_any (vault_is_due m) vaults) none in
      ap (λ ds. blobs_of ds ++ flat_map (λ vault. blobs_of (dropped m vault)) vaults) (dropped_none vault parts.0) ∙ none_freed vaults parts.1

  module _ (a : AccountState) (none : pass_is_event m a ≡ false) where
    pub freed-not_due : freed m a ≡ []
    freed-not_due = none_freed (map.values a.vaults) none

    -- vaults that keep what is to be kept stay
    pub vaults_same : ((name : List ℕ) → IfSome (map.get a.vaults name) HasKept) → map_values (passed m) a.vaults ≡ a.vaults
    vaults_same kept = map.same_map nat_list_cmp_total bytes_cmp-IsAntisymmetric _ _ (λ name. get-map_values nat_list_cmp_total (passed m) a.vaults name ∙ at name (map.get a.vaults name) refl (kept name))
      where
        not_due : (name : List ℕ) (vault : VaultState) → map.get a.vaults name ≡ Some vault → (b : Bool) → vault_is_due m vault ≡ b → b ≡ false
        not_due name vault there true e = let some : pass_is_event m a ≡ true = list_any-values (slice_cmp nat_cmp) (vault_is_due m) a.vaults name vault there e in cc
        not_due name vault there false e = refl

        at : (name : List ℕ) (r : Option VaultState) → map.get a.vaults name ≡ r → IfSome r HasKept → option_map (passed m) r ≡ r
        at name None there kept = refl
        at name (Some vault) there kept = ap (λ v. Some v) (passed_same vault (not_due name vault there (vault_is_due m vault) refl) kept)

    module _ (lawful : IsLawful a) where
      lawful_same : map_values (passed m) a.vaults ≡ a.vaults
      lawful_same = vaults_same (λ name. weaker (IsLawfulVault a.counter a.last) HasKept (map.get a.vaults name) (λ vault h. record { due = h.due; named = h.named }) (lawful.vaults name))

      pub pass-not_due : pass m a ≡ record a { last = m }
      pass-not_due = λ i. record {
        last = m;
        counter = a.counter;
        vaults = lawful_same i;
        used = (ap used_in lawful_same ∙ sym lawful.used) i;
        uploads = (ap uploads_in lawful_same ∙ sym lawful.uploads) i;
        jobs = (ap jobs_in lawful_same ∙ sym lawful.jobs) i;
        due = (ap due_in lawful_same ∙ sym lawful.due) i;
        length = (ap snapshot_length lawful_same ∙ sym lawful.length) i;
      }
