-- The moments that are kept tell whether something is due.
use Rattle.std.specs.Prelude.{◌≡◌, ℕ, ◌+◌, Bool, true, false, not, cond, ◌&&◌, ◌||◌, List, [], ◌∷◌, Option, Some, None, IfSome, nat_le}
use Rattle.std.specs.Cmp.{IsTotalOrder}
use Rattle.std.specs.Cmp.Lexicographic.{nat_list_cmp_total, slice_cmp}
use Rattle.std.specs.declared.cmp.Ordering.{Ordering}
use Rattle.std.specs.FinMap as map
use Rattle.std.specs.List.{list_any}
use Rattle.std.specs.Ordering.{nat_cmp}
use Rattle.std.proofs.Common.{◌∙◌, ap, sym, refl, subst}
use Rattle.glacier_base.proofs.Finite.{bytes_cmp-IsAntisymmetric}
use Rattle.glacier_vault.specs.Due.{sooner, soonest, has_come, job_due, finished_due, lock_due, held_due, content_due, vault_due}
use Rattle.glacier_vault.specs.Lawful.{IsLawful, IsLawfulVault}
use Rattle.glacier_vault.specs.Named.{is_named, is_waiting}
use Rattle.glacier_vault.specs.declared.archive.Finished.{Finished}
use Rattle.glacier_vault.specs.declared.due.TheConstants.{DAY}
use Rattle.glacier_vault.specs.declared.job.Job.{Job}
use Rattle.glacier_vault.specs.declared.lock.Lock.{Lock}
use Rattle.glacier_vault.specs.declared.state.AccountState.{AccountState}
use Rattle.glacier_vault.specs.declared.state.VaultState.{VaultState}
use Rattle.glacier_vault.proofs.DueLemmas.{has_come-held_due}
use Rattle.glacier_vault.proofs.Later.{weaker}
use Rattle.glacier_vault.proofs.SoonerLemmas.{has_come-sooner, has_come-soonest, sooner-none, sooner-assoc}
use Rattle.glacier_vault.proofs.ValuesLemmas.{list_any-values}
use Rattle.glacier_job.specs.Pass.{is_past, job_is_due, lock_is_due, vault_is_due, pass_is_event}
use Rattle.glacier_job.proofs.IsEvent.{passing, any_values}

-- tests that agree
pub list_any-same : {X : Type 0} (p q : X → Bool) → ((x : X) → p x ≡ q x) → (xs : List X) → list_any p xs ≡ list_any q xs
list_any-same p q same [] = refl
list_any-same p q same (x ∷ xs) = ap (λ b. b || list_any p xs) (same x) ∙ ap (λ b. q x || b) (list_any-same p q same xs)

module _ {K X : Type 0} (R : K → K → Ordering) (o : IsTotalOrder R) (same : map.IsAntisymmetric R) where
  -- what some value passes, some value passes that agrees for each that is there
  also : (p q : X → Bool) (m : map.FinMap R X) → ((k : K) → IfSome (map.get m k) (λ x. p x ≡ q x)) → list_any p (map.values m) ≡ true → list_any q (map.values m) ≡ true
  also p q m agree some =
      let h = passing R o same (λ _ x. p x) m (any_values R o same p (map.entries m) ∙ some) in
      let here : p h.value ≡ q h.value = subst (λ r. IfSome r (λ x. p x ≡ q x)) h.there (agree h.key) in
      list_any-values R q m h.key h.value h.there (sym here ∙ h.passes)

  flipped : (p q : X → Bool) (r : Option X) → IfSome r (λ x. p x ≡ q x) → IfSome r (λ x. q x ≡ p x)
  flipped p q None e = tt
  flipped p q (Some x) e = sym e

  -- tests that agree for each value that is there
  pub list_any-agree : (p q : X → Bool) (m : map.FinMap R X) → ((k : K) → IfSome (map.get m k) (λ x. p x ≡ q x)) → list_any p (map.values m) ≡ list_any q (map.values m)
  list_any-agree p q m agree = at (list_any p (map.values m)) refl (list_any q (map.values m)) refl
    where
      at : (a : Bool) → list_any p (map.values m) ≡ a → (b : Bool) → list_any q (map.values m) ≡ b → a ≡ b
      at true e true f = refl
      at false e false f = refl
      at true e false f = let no : list_any q (map.values m) ≡ true = also p q m agree e in cc
      at false e true f = let no : list_any p (map.values m) ≡ true = also q p m (λ k. flipped p q (map.get m k) (agree k)) f in cc

module _ (m : ℕ) where
  has_come-job_due : (job : Job) → has_come m (job_due job) ≡ job_is_due m job
  has_come-job_due job = at (is_waiting job.stage)
    where
      at : (b : Bool) → nat_le (cond b job.ready (job.ready + DAY)) m ≡ cond b (nat_le job.ready m) (is_past m job.ready)
      at true = refl
      at false = refl

  has_come-lock_due : (lock : Option Lock) → has_come m (lock_due lock) ≡ lock_is_due m lock
  has_come-lock_due None = refl
  has_come-lock_due (Some lock) = at lock.locked
    where
      at : (b : Bool) → has_come m (cond b None (Some (lock.created + DAY))) ≡ (not b && is_past m lock.created)
      at true = refl
      at false = refl

  swapped : (a b c d : Bool) → ((a || (b || c)) || d) ≡ (a || b || d || c)
  swapped true b c d = refl
  swapped false true c d = refl
  swapped false false true true = refl
  swapped false false true false = refl
  swapped false false false true = refl
  swapped false false false false = refl

  module _ (vault : VaultState) where
    abbrev jobs_due : Bool
    jobs_due = list_any (job_is_due m) (map.values vault.jobs)

    abbrev finished_are_due : Bool
    finished_are_due = list_any (λ (upload : Finished). is_past m upload.at) (map.values vault.finished)

    abbrev held_are_due : Bool
    held_are_due = list_any (λ number. not (is_named vault.jobs number)) (map.keys vault.held)

    has_come-jobs : has_come m (soonest job_due (map.values vault.jobs)) ≡ jobs_due
    has_come-jobs = has_come-soonest m job_due (map.values vault.jobs) ∙ list_any-same _ _ has_come-job_due (map.values vault.jobs)

    has_come-finished : has_come m (soonest finished_due (map.values vault.finished)) ≡ finished_are_due
    has_come-finished = has_come-soonest m finished_due (map.values vault.finished)

    has_come-content_due : has_come m (content_due vault) ≡ (jobs_due || (finished_are_due || held_are_due))
    has_come-content_due =
        has_come-sooner m (soonest job_due (map.values vault.jobs)) (sooner (soonest finished_due (map.values vault.finished)) (held_due vault))
        ∙ ap (λ b. b || has_come m (sooner (soonest finished_due (map.values vault.finished)) (held_due vault))) has_come-jobs
        ∙ ap (λ b. jobs_due || b) (has_come-sooner m (soonest finished_due (map.values vault.finished)) (held_due vault)
        ∙ ap (λ b. b || has_come m (held_due vault)) has_come-finished
        ∙ ap (λ b. finished_are_due || b) (has_come-held_due m vault))

    -- the moment of its content and that of its lock tell whether something of a vault is due
    pub has_come-vault : has_come m (sooner (content_due vault) (lock_due vault.lock)) ≡ vault_is_due m vault
    has_come-vault =
        has_come-sooner m (content_due vault) (lock_due vault.lock)
        ∙ ap (λ b. b || has_come m (lock_due vault.lock)) has_come-content_due
        ∙ ap (λ b. (jobs_due || (finished_are_due || held_are_due)) || b) (has_come-lock_due vault.lock)
        ∙ swapped jobs_due finished_are_due held_are_due (lock_is_due m vault.lock)

  -- the moment that a lawful account keeps tells whether something is due
  pub has_come-account : (a : AccountState) → IsLawful a → has_come m a.due ≡ pass_is_event m a
  has_come-account a lawful =
      ap (has_come m) lawful.due
      ∙ has_come-soonest m vault_due (map.values a.vaults)
      ∙ list_any-agree (slice_cmp nat_cmp) nat_list_cmp_total bytes_cmp-IsAntisymmetric (λ vault. has_come m (vault_due vault)) (vault_is_due m) a.vaults
      (λ name. weaker (IsLawfulVault a.counter a.last) (λ vault. has_come m (vault_due vault) ≡ vault_is_due m vault) (map.get a.vaults name)
      (λ vault h. ap (λ d. has_come m (sooner d (lock_due vault.lock))) h.due ∙ has_come-vault vault) (lawful.vaults name))

-- moments that are added one after another
pub ruleset adding = (sooner-none, sooner-assoc)
