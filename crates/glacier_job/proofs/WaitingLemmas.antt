-- A job that waits, put into a vault: what is due then.
use Rattle.std.specs.Prelude.{◌≡◌, ℕ, Bool, true, false, not, cond, ◌&&◌, ◌||◌, List, Option, Some, None}
use Rattle.std.specs.Cmp.{nat_cmp_total}
use Rattle.std.specs.FinMap as map
use Rattle.std.proofs.Common.{◌∙◌, ap, sym, refl}
use Rattle.glacier_base.specs.Maps.{changed_at}
use Rattle.glacier_vault.specs.Due.{sooner, soonest, job_due, finished_due, lock_due, held_due, content_due, due_in}
use Rattle.glacier_vault.specs.Named.{names, is_named, is_done, is_of}
use Rattle.glacier_vault.specs.Totals.{Vaults}
use Rattle.glacier_vault.specs.declared.job.Job.{Job}
use Rattle.glacier_vault.specs.declared.job.Stage.TheVariants.{Waiting}
use Rattle.glacier_vault.specs.declared.state.VaultState.{VaultState}
use Rattle.glacier_vault.proofs.AnyLemmas.{any-insert}
use Rattle.glacier_vault.proofs.DueLemmas.{due_in-sooner}
use Rattle.glacier_vault.proofs.NamingLemmas.{or-false}
use Rattle.glacier_vault.proofs.SoonerLemmas.{sooner-swap}
use Rattle.glacier_vault.proofs.SoonestLemmas.{soonest-missing}
use Rattle.glacier_job.specs.Beginning.{with_job}
use Rattle.glacier_job.proofs.DueLemmas.{list_any-same}

module _ (number : ℕ) (job : Job) (waits : job.stage ≡ Waiting) (vault : VaultState) where
  module _ (none : map.get vault.jobs number ≡ None) where
    -- a job that waits names nothing
    is_named-with_job : (n : ℕ) → is_named (map.insert vault.jobs number job) n ≡ is_named vault.jobs n
    is_named-with_job n =
        any-insert nat_cmp_total (names n) vault.jobs number job none
        ∙ ap (λ stage. is_named vault.jobs n || (is_done stage && is_of n job.work)) waits
        ∙ or-false (is_named vault.jobs n)

    held_due-with_job : held_due (with_job number job vault) ≡ held_due vault
    held_due-with_job = ap (λ b. cond b (Some 0) None) (list_any-same (λ n. not (is_named (map.insert vault.jobs number job) n)) (λ n. not (is_named vault.jobs n)) (λ n. ap not (is_named-with_job n)) (map.keys vault.held))

    pub content_due-with_job : content_due (with_job number job vault) ≡ sooner (content_due vault) (job_due job)
    content_due-with_job =
        ap (λ x. sooner x (sooner (soonest finished_due (map.values vault.finished)) (held_due (with_job number job vault)))) (soonest-missing nat_cmp_total job_due vault.jobs number job none)
        ∙ ap (λ x. sooner (sooner (soonest job_due (map.values vault.jobs)) (job_due job)) (sooner (soonest finished_due (map.values vault.finished)) x)) held_due-with_job
        ∙ sooner-swap (soonest job_due (map.values vault.jobs)) (job_due job) (sooner (soonest finished_due (map.values vault.finished)) (held_due vault))

  pub due_in-with_job : (vaults : Vaults) (name : List ℕ) → map.get vaults name ≡ Some vault → due_in (changed_at (with_job number job) vaults name) ≡ sooner (due_in vaults) (job_due job)
  due_in-with_job vaults name there = due_in-sooner vaults name vault there (with_job number job) (job_due job) (sooner-swap vault.due (job_due job) (lock_due vault.lock))
