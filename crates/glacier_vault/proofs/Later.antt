-- What is lawful stays so as the counter and the last moment rise.
use Rattle.std.specs.Prelude.{◌≡◌, ℕ, ◌≤◌, Option, Some, None, IfSome}
use Rattle.std.proofs.Common.{refl, arith}
use Rattle.glacier_vault.specs.Lawful.{IsLawfulArchive, IsLawfulUpload, IsLawfulWork, IsLawfulJob, IsLawfulLock, IsLawfulVault, IsDrawn}
use Rattle.glacier_vault.specs.Totals.{Archives}
use Rattle.glacier_vault.specs.declared.archive.Archive.{Archive}
use Rattle.glacier_vault.specs.declared.archive.Finished.{Finished}
use Rattle.glacier_vault.specs.declared.archive.Upload.{Upload}
use Rattle.glacier_vault.specs.declared.job.Job.{Job}
use Rattle.glacier_vault.specs.declared.job.Stage.{Stage}
use Rattle.glacier_vault.specs.declared.job.Work.{Work}
use Rattle.glacier_vault.specs.declared.job.Work.TheVariants as works
use Rattle.glacier_vault.specs.declared.lock.Lock.{Lock}
use Rattle.glacier_vault.specs.declared.state.VaultState.{VaultState}

-- what holds of each value holds of the one that is there
pub weaker : {X : Type 0} (P Q : X → Type 0) (r : Option X) → ((x : X) → P x → Q x) → IfSome r P → IfSome r Q
weaker P Q None f h = tt
weaker P Q (Some x) f h = f x h

-- the same, where it is known that the value is there
pub weaker_there : {X : Type 0} (P Q : X → Type 0) (r : Option X) → ((x : X) → r ≡ Some x → P x → Q x) → IfSome r P → IfSome r Q
weaker_there P Q None f h = tt
weaker_there P Q (Some x) f h = f x refl h

module _ (c d : ℕ) (more : c ≤ d) where
  pub later_drawn : {X : Type 0} (P Q : X → Type 0) → ((x : X) → P x → Q x) → (n : ℕ) (x : X) → IsDrawn c P n x → IsDrawn d Q n x
  later_drawn P Q f n x h = record { drawn = omega (arith, h.drawn); right = f x h.right }

  module _ (archives held : Archives) where
    pub later_work : (stage : Stage) (work : Work) → IsLawfulWork c archives held stage work → IsLawfulWork d archives held stage work
    later_work stage (works.Archive archive size tree first end range) h = record {
      number = omega (arith, h.number);
      some = h.some;
      within = h.within;
      live_size = h.live_size;
      held_size = h.held_size;
      kept = h.kept;
    }
    later_work stage (works.Inventory csv) h = tt

  module _ (k l : ℕ) (le : k ≤ l) where
    pub later_archive : (archive : Archive) → IsLawfulArchive k archive → IsLawfulArchive l archive
    later_archive archive h = record { body = h.body; created = omega (arith, h.created); blob = h.blob }

    pub later_upload : (upload : Upload) → IsLawfulUpload k upload → IsLawfulUpload l upload
    later_upload upload h = record { part_size = h.part_size; created = omega (arith, h.created); parts = h.parts }

    pub later_job : (archives held : Archives) (job : Job) → IsLawfulJob c k archives held job → IsLawfulJob d l archives held job
    later_job archives held job h = record { created = omega (arith, h.created); work = later_work archives held job.stage job.work h.work }

    pub later_lock : (lock : Lock) → IsLawfulLock c k lock → IsLawfulLock d l lock
    later_lock lock h = record { number = omega (arith, h.number); created = omega (arith, h.created); policy = h.policy }

    pub later_vault : (vault : VaultState) → IsLawfulVault c k vault → IsLawfulVault d l vault
    later_vault vault h =
        let archives = later_drawn (IsLawfulArchive k) (IsLawfulArchive l) later_archive in
        let finished = later_drawn (λ (f : Finished). f.at ≤ k) (λ (f : Finished). f.at ≤ l) (λ f at. omega arith) in
        record {
          created = omega (arith, h.created);
          bytes = h.bytes;
          archives = λ n. weaker _ _ _ (archives n) (h.archives n);
          held = λ n. weaker _ _ _ (archives n) (h.held n);
          live_or_held = h.live_or_held;
          uploads = λ n. weaker _ _ _ (later_drawn (IsLawfulUpload k) (IsLawfulUpload l) later_upload n) (h.uploads n);
          finished = λ n. weaker _ _ _ (finished n) (h.finished n);
          open_or_finished = h.open_or_finished;
          jobs = λ n. weaker _ _ _ (later_drawn (IsLawfulJob c k vault.archives vault.held) (IsLawfulJob d l vault.archives vault.held) (later_job vault.archives vault.held) n) (h.jobs n);
          lock = weaker _ _ _ later_lock h.lock;
          named = h.named;
          due = h.due;
        }
