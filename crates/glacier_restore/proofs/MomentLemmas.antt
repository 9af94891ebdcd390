-- What is put into a vault does to the moment that is due in it, and in its account.
use Rattle.std.specs.Prelude.{◌≡◌, ℕ, ◌+◌, Bool, true, false, cond, not, ◌&&◌, ◌||◌, List, Option, Some, None, is_some, is_none, nat_eq, nat_le}
use Rattle.std.specs.Cmp.{nat_cmp_total}
use Rattle.std.specs.FinMap as map
use Rattle.std.specs.List.{list_any}
use Rattle.std.specs.Ordering.{nat_cmp}
use Rattle.std.proofs.Common.{◌∙◌, ap, sym, refl, arith}
use Rattle.std.proofs.lemmas.Bool.{eqb-true, le-leb, leb-true}
use Rattle.glacier_base.specs.Maps.{changed_at}
use Rattle.glacier_vault.specs.Due.{sooner, soonest, job_due, finished_due, lock_due, held_due, content_due, vault_due, due_in}
use Rattle.glacier_vault.specs.Lawful.{IsLawful, IsLawfulVault}
use Rattle.glacier_vault.specs.Named.{is_done, is_of, is_named, is_waiting, named_in, names}
use Rattle.glacier_vault.specs.declared.archive.Archive.{Archive}
use Rattle.glacier_vault.specs.declared.archive.Finished.{Finished}
use Rattle.glacier_vault.specs.declared.due.TheConstants.{DAY}
use Rattle.glacier_vault.specs.declared.job.Job.{Job}
use Rattle.glacier_vault.specs.declared.job.Line.{Line}
use Rattle.glacier_vault.specs.declared.job.Stage.{Stage}
use Rattle.glacier_vault.specs.declared.job.Stage.TheVariants as stages
use Rattle.glacier_vault.specs.declared.job.Work.{Work}
use Rattle.glacier_vault.specs.declared.job.Work.TheVariants as works
use Rattle.glacier_vault.specs.declared.lock.Lock.{Lock}
use Rattle.glacier_vault.specs.declared.state.AccountState.{AccountState}
use Rattle.glacier_vault.specs.declared.state.VaultState.{VaultState}
use Rattle.glacier_vault.proofs.AnyLemmas.{any-empty, any-insert, any-changed_at, any_same}
use Rattle.glacier_vault.proofs.DueLemmas.{due_in-sooner, due_in-same}
use Rattle.glacier_vault.proofs.NamingLemmas.{contains_named, named_in-changed_at}
use Rattle.glacier_vault.proofs.SoonerLemmas.{sooner-none, sooner-assoc, sooner-swap}
use Rattle.glacier_vault.proofs.SoonestLemmas.{soonest-missing, soonest-changed_at, any-keys-insert}
use Rattle.glacier_restore.specs.Moments.{asks_loose, names_loose}
use Rattle.glacier_restore.specs.Putting.{with_archive, with_finished, with_job, one_line_more, with_line, in_job, with_lock}

-- nothing is sooner than 0
at_once : (a : Option ℕ) → sooner a (Some 0) ≡ Some 0
at_once None = refl
at_once (Some n) = at (nat_le n 0) refl
  where
    at : (b : Bool) → nat_le n 0 ≡ b → Some (cond b n 0) ≡ Some 0
    at true t = let none : n ≡ 0 = omega (arith, leb-true n 0 t) in ap (λ k. Some k) none
    at false t = refl

once_at : (a : Option ℕ) → sooner (Some 0) a ≡ Some 0
once_at None = refl
once_at (Some n) = ap (λ b. Some (cond b 0 n)) (le-leb 0 n (omega arith))

or_none : (b : Bool) → (b || false) ≡ b
or_none true = refl
or_none false = refl

-- a line changes neither how far a job is nor what it names
still_waiting : (line : Line) (stage : Stage) → is_waiting (one_line_more line stage) ≡ is_waiting stage
still_waiting line stages.Waiting = refl
still_waiting line stages.Failed = refl
still_waiting line (stages.Done lines) = refl

still_done : (line : Line) (stage : Stage) → is_done (one_line_more line stage) ≡ is_done stage
still_done line stages.Waiting = refl
still_done line stages.Failed = refl
still_done line (stages.Done lines) = refl

module _ (vault : VaultState) where
  module _ (kept : vault.named ≡ named_in vault.jobs) where
    -- a job that names no loose archive leaves each held archive as named as it was
    names_other : (n : ℕ) → is_some (map.get vault.held n) ≡ true → (done : Bool) (work : Work) → (done && asks_loose vault work) ≡ false → (is_named vault.jobs n || (done && is_of n work)) ≡ is_named vault.jobs n
    names_other n there false work e = or_none (is_named vault.jobs n)
    names_other n there true (works.Inventory csv) e = or_none (is_named vault.jobs n)
    names_other n there true (works.Archive archive size tree first end range) e = at (nat_eq archive n) refl
      where
        loose : ℕ → Bool
        loose k = is_some (map.get vault.held k) && not (map.contains_key vault.named k)

        named_already : (held named : Bool) → held ≡ true → (held && not named) ≡ false → named ≡ true
        named_already true true h l = refl
        named_already true false h l = cc
        named_already false named h l = cc

        at : (b : Bool) → nat_eq archive n ≡ b → (is_named vault.jobs n || b) ≡ is_named vault.jobs n
        at true t =
            let same : loose n ≡ false = ap loose (sym (eqb-true archive n t)) ∙ e in
            let named : is_named vault.jobs n ≡ true = sym (contains_named vault kept n) ∙ named_already (is_some (map.get vault.held n)) (map.contains_key vault.named n) there same in
            ap (λ b. b || true) named ∙ sym named
        at false t = or_none (is_named vault.jobs n)

    -- what is looked up is what the jobs name
    pub loose_is : list_any (λ n. not (map.contains_key vault.named n)) (map.keys vault.held) ≡ list_any (λ n. not (is_named vault.jobs n)) (map.keys vault.held)
    loose_is = ap (λ (test : ℕ → Bool). list_any (λ n. not (test n)) (map.keys vault.held)) (λ i n. contains_named vault kept n i)

  -- where an archive is loose, that is at once
  pub due-loose : list_any (λ n. not (is_named vault.jobs n)) (map.keys vault.held) ≡ true → content_due vault ≡ Some 0
  due-loose loose =
      let ups = soonest finished_due (map.values vault.finished) in
      let js = soonest job_due (map.values vault.jobs) in
      ap (λ b. sooner js (sooner ups (cond b (Some 0) None))) loose ∙ ap (sooner js) (at_once ups) ∙ at_once js

  -- and else what comes of its jobs and its finished uploads
  pub due-none_loose : list_any (λ n. not (is_named vault.jobs n)) (map.keys vault.held) ≡ false → content_due vault ≡ sooner (soonest job_due (map.values vault.jobs)) (soonest finished_due (map.values vault.finished))
  due-none_loose none =
      let ups = soonest finished_due (map.values vault.finished) in
      let js = soonest job_due (map.values vault.jobs) in
      ap (λ b. sooner js (sooner ups (cond b (Some 0) None))) none ∙ ap (sooner js) (sooner-none ups)

  module _ (number : ℕ) where
    module _ (job : Job) (none : map.get vault.jobs number ≡ None) (kept : vault.named ≡ named_in vault.jobs) (other : names_loose vault job ≡ false) where
      held_due-job : held_due (record vault { jobs = map.insert vault.jobs number job }) ≡ held_due vault
      held_due-job = ap (λ b. cond b (Some 0) None) (any_same nat_cmp_total
          (λ n. not (is_named (map.insert vault.jobs number job) n)) (λ n. not (is_named vault.jobs n)) (map.keys vault.held)
          (λ n e. ap not (
          any-insert nat_cmp_total (names n) vault.jobs number job none
          ∙ names_other kept n (map.contains_key-keys vault.held n ∙ e) (is_done job.stage) job.work other)))

      pub content_due-job : vault.due ≡ content_due vault → content_due (record vault { jobs = map.insert vault.jobs number job }) ≡ sooner vault.due (job_due job)
      content_due-job due =
          let ups = soonest finished_due (map.values vault.finished) in
          let js = soonest job_due (map.values vault.jobs) in
          ap (λ x. sooner x (sooner ups (held_due (record vault { jobs = map.insert vault.jobs number job })))) (soonest-missing nat_cmp_total job_due vault.jobs number job none)
          ∙ ap (λ x. sooner (sooner js (job_due job)) (sooner ups x)) held_due-job
          ∙ sooner-swap js (job_due job) (sooner ups (held_due vault))
          ∙ ap (λ x. sooner x (job_due job)) (sym due)

    pub content_due-finished : (finished : Finished) → map.get vault.finished number ≡ None → vault.due ≡ content_due vault
        → content_due (record vault { finished = map.insert vault.finished number finished }) ≡ sooner vault.due (finished_due finished)
    content_due-finished finished none due =
        let ups = soonest finished_due (map.values vault.finished) in
        let js = soonest job_due (map.values vault.jobs) in
        ap (λ x. sooner js (sooner x (held_due vault))) (soonest-missing nat_cmp_total finished_due vault.finished number finished none)
        ∙ ap (sooner js) (sooner-swap ups (finished_due finished) (held_due vault))
        ∙ sym (sooner-assoc js (sooner ups (held_due vault)) (finished_due finished))
        ∙ ap (λ x. sooner x (finished_due finished)) (sym due)

    -- a held archive that comes before the jobs is loose
    pub content_due-held : (archive : Archive) → map.len vault.jobs ≡ 0 → content_due (record vault { held = map.insert vault.held number archive }) ≡ Some 0
    content_due-held archive none =
        let unnamed : is_named vault.jobs number ≡ false = ap (λ jobs. is_named jobs number) (map.empty_of_len vault.jobs none) ∙ any-empty nat_cmp (names number) in
        let loose = λ (n : ℕ). not (is_named vault.jobs n) in
        let held : held_due (record vault { held = map.insert vault.held number archive }) ≡ Some 0 =
        ap (λ b. cond b (Some 0) None) (
        any-keys-insert nat_cmp_total map.nat_cmp-IsAntisymmetric loose vault.held number archive
        ∙ ap (λ b. not b || list_any loose (map.keys vault.held)) unnamed) in
        let ups = soonest finished_due (map.values vault.finished) in
        let js = soonest job_due (map.values vault.jobs) in
        ap (λ x. sooner js (sooner ups x)) held ∙ ap (sooner js) (at_once ups) ∙ at_once js

    -- a line names nothing
    pub named_in-line : (job : Job) → map.get vault.jobs number ≡ Some job → (line : Line) → named_in (changed_at (with_line line) vault.jobs number) ≡ named_in vault.jobs
    named_in-line job there line = named_in-changed_at vault.jobs number (with_line line) job there (λ n. ap (λ b. b && is_of n job.work) (still_done line job.stage))

    -- and moves nothing
    pub content_due-line : (job : Job) → map.get vault.jobs number ≡ Some job → (line : Line) → content_due (in_job number line vault) ≡ content_due vault
    content_due-line job there line =
        let ups = soonest finished_due (map.values vault.finished) in
        let js : soonest job_due (map.values (changed_at (with_line line) vault.jobs number)) ≡ soonest job_due (map.values vault.jobs) =
        soonest-changed_at nat_cmp_total job_due vault.jobs number (with_line line) job None there
        (ap (λ b. Some (cond b job.ready (job.ready + DAY))) (still_waiting line job.stage) ∙ sym (sooner-none (job_due job))) ∙ sooner-none _ in
        let held : held_due (in_job number line vault) ≡ held_due vault =
        ap (λ b. cond b (Some 0) None) (any_same nat_cmp_total
        (λ n. not (is_named (changed_at (with_line line) vault.jobs number) n)) (λ n. not (is_named vault.jobs n)) (map.keys vault.held)
        (λ n e. ap not (any-changed_at nat_cmp_total (names n) vault.jobs number (with_line line) job there (ap (λ b. b && is_of n job.work) (still_done line job.stage))))) in
        ap (λ x. sooner x (sooner ups (held_due (in_job number line vault)))) js ∙ ap (λ x. sooner (soonest job_due (map.values vault.jobs)) (sooner ups x)) held

module _ (a : AccountState) (lawful : IsLawful a) (name : List ℕ) (vault : VaultState) (there : map.get a.vaults name ≡ Some vault) where
  -- a vault whose moment stays
  pub due_same : (f : VaultState → VaultState) → vault_due (f vault) ≡ vault_due vault → a.due ≡ due_in (changed_at f a.vaults name)
  due_same f h = lawful.due ∙ sym (due_in-same a.vaults name vault there f h)

  -- one whose moment becomes x where that is sooner
  due_sooner : (f : VaultState → VaultState) (x : Option ℕ) → vault_due (f vault) ≡ sooner (vault_due vault) x → sooner a.due x ≡ due_in (changed_at f a.vaults name)
  due_sooner f x h = ap (λ d. sooner d x) lawful.due ∙ sym (due_in-sooner a.vaults name vault there f x h)

  module _ (right : IsLawfulVault a.counter a.last vault) (number : ℕ) where
    pub archive_due : (held : Bool) (archive : Archive) → map.len vault.jobs ≡ 0 → cond held (Some 0) a.due ≡ due_in (changed_at (with_archive held number archive) a.vaults name)
    archive_due false archive none = due_same (with_archive false number archive) refl
    archive_due true archive none =
        sym (at_once a.due)
        ∙ due_sooner (with_archive true number archive) (Some 0)
        (ap (λ x. sooner x (lock_due vault.lock)) (content_due-held vault number archive none) ∙ once_at (lock_due vault.lock) ∙ sym (at_once (vault_due vault)))

    pub due-finished : (finished : Finished) → map.get vault.finished number ≡ None → sooner a.due (finished_due finished) ≡ due_in (changed_at (with_finished number finished) a.vaults name)
    due-finished finished none = due_sooner (with_finished number finished) (finished_due finished)
        (ap (λ x. sooner x (lock_due vault.lock)) (content_due-finished vault number finished none right.due) ∙ sooner-swap vault.due (finished_due finished) (lock_due vault.lock))

    pub due-job : (job : Job) → map.get vault.jobs number ≡ None
        → cond (names_loose vault job) (due_in (changed_at (with_job number job) a.vaults name)) (sooner a.due (job_due job)) ≡ due_in (changed_at (with_job number job) a.vaults name)
    due-job job none = at (names_loose vault job) refl
      where
        at : (b : Bool) → names_loose vault job ≡ b
            → cond b (due_in (changed_at (with_job number job) a.vaults name)) (sooner a.due (job_due job)) ≡ due_in (changed_at (with_job number job) a.vaults name)
        at true t = refl
        at false t = due_sooner (with_job number job) (job_due job)
            (ap (λ x. sooner x (lock_due vault.lock)) (content_due-job vault number job none right.named t right.due) ∙ sooner-swap vault.due (job_due job) (lock_due vault.lock))

  no_lock : (r : Option Lock) → is_none r ≡ true → r ≡ None
  no_lock None e = refl
  no_lock (Some x) e = cc

  pub due-lock : (lock : Lock) → is_none vault.lock ≡ true → sooner a.due (lock_due (Some lock)) ≡ due_in (changed_at (with_lock lock) a.vaults name)
  due-lock lock free = due_sooner (with_lock lock) (lock_due (Some lock))
      (ap (λ x. sooner x (lock_due (Some lock))) (sym (ap (λ r. sooner vault.due (lock_due r)) (no_lock vault.lock free) ∙ sooner-none vault.due)))
