-- A moment that comes twice does nothing the second time.
use Rattle.std.specs.Prelude.{◌≡◌, ℕ, Bool, true, false, not, cond, ◌&&◌, ◌||◌, List, [], ◌∷◌, Option, Some, None, IfSome, nat_le, map as each, filter}
use Rattle.std.specs.Cmp.{nat_cmp_total}
use Rattle.std.specs.Cmp.Lexicographic.{nat_list_cmp_total}
use Rattle.std.specs.FinMap as map
use Rattle.std.specs.List.{list_any}
use Rattle.std.specs.Map.{keys_of, values_of}
use Rattle.std.specs.Option.{option_map}
use Rattle.std.proofs.Common.{◌∙◌, ap, sym, refl, subst}
use Rattle.glacier_base.specs.Maps.{map_values}
use Rattle.glacier_base.proofs.Changed.{get-map_values}
use Rattle.glacier_base.proofs.Listed.{entries-map_values, entries-where_entries}
use Rattle.glacier_vault.specs.Due.{held_due, content_due, due_in}
use Rattle.glacier_vault.specs.Lengths.{snapshot_length}
use Rattle.glacier_vault.specs.Named.{is_named, is_waiting}
use Rattle.glacier_vault.specs.Totals.{Archives, used_in, uploads_in, jobs_in}
use Rattle.glacier_vault.specs.declared.archive.Archive.{Archive}
use Rattle.glacier_vault.specs.declared.archive.Finished.{Finished}
use Rattle.glacier_vault.specs.declared.job.Job.{Job}
use Rattle.glacier_vault.specs.declared.job.Stage.{Stage}
use Rattle.glacier_vault.specs.declared.job.Stage.TheVariants.{Waiting, Failed, Done}
use Rattle.glacier_vault.specs.declared.lock.Lock.{Lock}
use Rattle.glacier_vault.specs.declared.state.AccountState.{AccountState}
use Rattle.glacier_vault.specs.declared.state.VaultState.{VaultState}
use Rattle.glacier_job.specs.Pass.{outcome, settled, is_past, has_ended, jobs_after, lock_after, lock_ends, left_in, passed, pass, job_is_due, lock_is_due, vault_is_due, pass_is_event}
use Rattle.glacier_job.proofs.NotDue.{HasKept, vaults_same}
use Rattle.glacier_job.proofs.PassLemmas.{outcome_settles}

-- what stays fails a test that all that stays fails
none_left : {K X Y : Type 0} (of : K × X → Y) (stays : K × X → Bool) (test : Y → Bool) → ((e : K × X) → stays e ≡ true → test (of e) ≡ false) → (es : List (K × X)) → list_any test (each of (filter stays es)) ≡ false
none_left of stays test fails [] = refl
none_left of stays test fails (e ∷ es) = at (stays e) refl (none_left of stays test fails es)
  where
    at : (b : Bool) → stays e ≡ b → list_any test (each of (filter stays es)) ≡ false → list_any test (each of (cond b (e ∷ filter stays es) (filter stays es))) ≡ false
    at true s later = ap (λ b. b || list_any test (each of (filter stays es))) (fails e s) ∙ later
    at false s later = later

not_true : (b : Bool) → not b ≡ true → b ≡ false
not_true true e = cc
not_true false e = refl

module _ (m : ℕ) where
  -- a settled job that hasn't ended isn't due
  settled_not_due : (archives : Archives) (job : Job) → has_ended m (settled m archives job) ≡ false → job_is_due m (settled m archives job) ≡ false
  settled_not_due archives job stays = at job.stage stays
    where
      outcome_case : (w : Bool) → w ≡ false → (not w && is_past m job.ready) ≡ false → cond w (nat_le job.ready m) (is_past m job.ready) ≡ false
      outcome_case true settles e = cc
      outcome_case false settles e = e

      waiting_case : (b : Bool) → nat_le job.ready m ≡ b → (not (is_waiting (cond b (outcome archives job.work) Waiting)) && is_past m job.ready) ≡ false
          → cond (is_waiting (cond b (outcome archives job.work) Waiting)) (nat_le job.ready m) (is_past m job.ready) ≡ false
      waiting_case true is e = outcome_case (is_waiting (outcome archives job.work)) (outcome_settles archives job.work) e
      waiting_case false is e = is

      at : (stage : Stage) → (not (is_waiting (elim stage [ Waiting ↦ cond (nat_le job.ready m) (outcome archives job.work) Waiting | Failed ↦ Failed | Done found ↦ Done found ])) && is_past m job.ready) ≡ false
          → cond (is_waiting (elim stage [ Waiting ↦ cond (nat_le job.ready m) (outcome archives job.work) Waiting | Failed ↦ Failed | Done found ↦ Done found ])) (nat_le job.ready m) (is_past m job.ready) ≡ false
      at Waiting e = waiting_case (nat_le job.ready m) refl e
      at Failed e = e
      at (Done found) e = e

  -- the jobs of a list that are settled and haven't ended aren't due
  none_due : (archives : Archives) (es : List (ℕ × Job)) → list_any (job_is_due m) (values_of (filter (λ e. not (has_ended m e.1)) (each (λ e. (e.0, settled m archives e.1)) es))) ≡ false
  none_due archives [] = refl
  none_due archives (e ∷ es) = at (has_ended m (settled m archives e.1)) refl (none_due archives es)
    where
      left : List (ℕ × Job)
      left = filter (λ e. not (has_ended m e.1)) (each (λ e. (e.0, settled m archives e.1)) es)

      at : (b : Bool) → has_ended m (settled m archives e.1) ≡ b → list_any (job_is_due m) (values_of left) ≡ false → list_any (job_is_due m) (values_of (cond (not b) ((e.0, settled m archives e.1) ∷ left) left)) ≡ false
      at true is later = later
      at false is later = ap (λ b. b || list_any (job_is_due m) (values_of left)) (settled_not_due archives e.1 is) ∙ later

  lock_not_due : (lock : Option Lock) → lock_is_due m (lock_after m lock) ≡ false
  lock_not_due None = refl
  lock_not_due (Some lock) = at (lock_ends m lock) refl
    where
      at : (b : Bool) → lock_ends m lock ≡ b → lock_is_due m (cond b None (Some lock)) ≡ false
      at true is = refl
      at false is = is

  module _ (vault : VaultState) where
    jobs_not_due : list_any (job_is_due m) (map.values (jobs_after m vault)) ≡ false
    jobs_not_due =
        ap (λ es. list_any (job_is_due m) (values_of es)) (entries-where_entries nat_cmp_total (map_values (settled m vault.archives) vault.jobs) (λ _ job. not (has_ended m job))
        ∙ ap (filter (λ e. not (has_ended m e.1))) (entries-map_values nat_cmp_total vault.jobs (settled m vault.archives)))
        ∙ none_due vault.archives (map.entries vault.jobs)

    finished_not_due : list_any (λ (upload : Finished). is_past m upload.at) (map.values (passed m vault).finished) ≡ false
    finished_not_due =
        ap (λ es. list_any (λ (upload : Finished). is_past m upload.at) (values_of es)) (entries-where_entries nat_cmp_total vault.finished (λ _ (upload : Finished). not (is_past m upload.at)))
        ∙ none_left (λ (e : ℕ × Finished). e.1) (λ e. not (is_past m e.1.at)) (λ (upload : Finished). is_past m upload.at) (λ e s. not_true (is_past m e.1.at) s) (map.entries vault.finished)

    held_not_due : list_any (λ number. not (is_named (jobs_after m vault) number)) (map.keys (passed m vault).held) ≡ false
    held_not_due =
        ap (λ es. list_any (λ number. not (is_named (jobs_after m vault) number)) (keys_of es)) (entries-where_entries nat_cmp_total vault.held (λ number _. is_named (jobs_after m vault) number))
        ∙ none_left (λ (e : ℕ × Archive). e.0) (λ e. is_named (jobs_after m vault) e.0) (λ number. not (is_named (jobs_after m vault) number)) (λ e s. ap not s) (map.entries vault.held)

    -- what is held is named
    pub held_due-left : held_due (left_in m vault) ≡ None
    held_due-left = ap (λ b. cond b (Some 0) None) held_not_due

    passed_not_due : vault_is_due m (passed m vault) ≡ false
    passed_not_due = four (list_any (job_is_due m) (map.values (jobs_after m vault))) (list_any (λ (upload : Finished). is_past m upload.at) (map.values (passed m vault).finished)) (lock_is_due m (lock_after m vault.lock))
        (list_any (λ number. not (is_named (jobs_after m vault) number)) (map.keys (passed m vault).held)) jobs_not_due finished_not_due (lock_not_due vault.lock) held_not_due
      where
        four : (a b c d : Bool) → a ≡ false → b ≡ false → c ≡ false → d ≡ false → (a || b || c || d) ≡ false
        four a b c d p q r s = ap (λ a. a || b || c || d) p ∙ ap (λ b. b || c || d) q ∙ ap (λ c. c || d) r ∙ s

  each_not_due : (es : List (List ℕ × VaultState)) → list_any (vault_is_due m) (values_of (each (λ e. (e.0, passed m e.1)) es)) ≡ false
  each_not_due [] = refl
  each_not_due (e ∷ es) = ap (λ b. b || list_any (vault_is_due m) (values_of (each (λ e. (e.0, passed m e.1)) es))) (passed_not_due e.1) ∙ each_not_due es

  pub pass_twice : (a : AccountState) → pass m (pass m a) ≡ pass m a
  pass_twice a =
      let none : pass_is_event m (pass m a) ≡ false = ap (λ es. list_any (vault_is_due m) (values_of es)) (entries-map_values nat_list_cmp_total a.vaults (passed m)) ∙ each_not_due (map.entries a.vaults) in
      let same = vaults_same m (pass m a) none kept in
      λ i. record { last = m; counter = a.counter; vaults = same i; used = used_in (same i); uploads = uploads_in (same i); jobs = jobs_in (same i); due = due_in (same i); length = snapshot_length (same i) }
    where
      each_keeps : (r : Option VaultState) → IfSome (option_map (passed m) r) HasKept
      each_keeps None = tt
      each_keeps (Some vault) = record { due = refl; named = refl }

      kept : (name : List ℕ) → IfSome (map.get (map_values (passed m) a.vaults) name) HasKept
      kept name = subst (λ r. IfSome r HasKept) (sym (get-map_values nat_list_cmp_total (passed m) a.vaults name)) (each_keeps (map.get a.vaults name))
