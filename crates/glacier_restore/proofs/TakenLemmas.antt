-- A lawful vault that takes something in.
use Rattle.std.specs.Prelude.{◌≡◌, ℕ, ◌≤◌, ◌+◌, Bool, true, false, not, ◌||◌, Option, Some, None, IfSome, IsSome, IsTrue, is_some, is_none, sum_by}
use Rattle.std.specs.Cmp.{nat_cmp_total}
use Rattle.std.specs.FinMap as map
use Rattle.std.specs.Ordering.{nat_cmp}
use Rattle.std.proofs.Common.{ap, sym, refl, subst, arith}
use Rattle.std.proofs.lemmas.Bool.{and_parts, eqb-true}
use Rattle.glacier_base.proofs.LookUps.{if_some-empty, if_some-insert}
use Rattle.glacier_base.proofs.Sums.{weight, sum_by-insert}
use Rattle.glacier_vault.specs.Lawful.{IsLawfulBody, IsLawfulArchive, IsLawfulPart, IsLawfulUpload, IsLawfulJob, IsLawfulWork, IsLawfulLock, IsLawfulVault, IsDrawn}
use Rattle.glacier_vault.specs.Named.{is_done}
use Rattle.glacier_vault.specs.Totals.{Weight, vault_total, upload_total, lock_total}
use Rattle.glacier_vault.specs.declared.archive.Archive.{Archive}
use Rattle.glacier_vault.specs.declared.archive.Finished.{Finished}
use Rattle.glacier_vault.specs.declared.archive.Upload.{Upload}
use Rattle.glacier_vault.specs.declared.job.Job.{Job}
use Rattle.glacier_vault.specs.declared.job.Work.{Work}
use Rattle.glacier_vault.specs.declared.job.Work.TheVariants as works
use Rattle.glacier_vault.specs.declared.lock.Lock.{Lock}
use Rattle.glacier_vault.specs.declared.state.AccountState.{AccountState}
use Rattle.glacier_vault.specs.declared.state.VaultState.{VaultState}
use Rattle.glacier_vault.proofs.TotalsLemmas.{sum_by-empty}
use Rattle.glacier_restore.specs.Fitting.{is_past, is_work, has_size, takes_archive, takes_upload, takes_finished, takes_job}
use Rattle.glacier_restore.specs.Putting.{with_archive, with_upload, with_finished, with_job, with_lock}
use Rattle.glacier_restore.proofs.NamedLemmas.{neither, not_true}
use Rattle.glacier_restore.proofs.VaultLemmas.{le_of, lt_of, none_there, stays_apart, comes_apart, right_uploads, right_jobs, right_archives}

module _ (a : AccountState) (vault : VaultState) (lawful : IsLawfulVault a.counter a.last vault) where
  module _ (number : ℕ) where
    module _ (archive : Archive) (body : IsLawfulBody archive.size archive.leaves archive.tree) (takes : takes_archive a number archive vault ≡ true) where
      archive_parts : (IsDrawn a.counter (IsLawfulArchive a.last) number archive × (map.len vault.jobs ≡ 0)) × ((map.get vault.archives number ≡ None) × (map.get vault.held number ≡ None))
      archive_parts =
          let all = and_parts _ _ takes in
          let free = neither _ _ (not_true _ all.1) in
          let jobs = and_parts _ _ all.0 in
          let blobs = and_parts _ _ jobs.0 in
          let some = and_parts _ _ blobs.0 in
          let past = and_parts _ _ some.0 in (
            (
              record { drawn = lt_of _ _ past.0; right = record { body = body; created = le_of _ _ past.1; blob = le_of _ _ some.1 } },
              eqb-true _ _ jobs.1,
            ),
            (none_there _ free.0, none_there _ free.1),
          )

      pub right_with_archive : (held : Bool) → IsLawfulVault a.counter a.last (with_archive held number archive vault)
      right_with_archive false = right_archives a vault lawful (map.insert vault.archives number archive) vault.held vault.due lawful.due archive_parts.0.1
          (λ n. if_some-insert nat_cmp_total map.nat_cmp-IsAntisymmetric (IsDrawn a.counter (IsLawfulArchive a.last)) vault.archives number n archive archive_parts.0.0 (lawful.archives n))
          lawful.held (stays_apart vault.archives vault.held number archive archive_parts.1.1 lawful.live_or_held)
      right_with_archive true =
          subst (λ bytes. IsLawfulVault a.counter a.last (record (with_archive true number archive vault) { bytes = bytes })) (sym lawful.bytes)
          (right_archives a vault lawful vault.archives (map.insert vault.held number archive) _ refl archive_parts.0.1 lawful.archives
          (λ n. if_some-insert nat_cmp_total map.nat_cmp-IsAntisymmetric (IsDrawn a.counter (IsLawfulArchive a.last)) vault.held number n archive archive_parts.0.0 (lawful.held n))
          (comes_apart vault.held vault.archives number archive archive_parts.1.0 lawful.live_or_held))

      pub archive_grows : (held : Bool) (w : Weight) → vault_total w (with_archive held number archive vault) ≡ vault_total w vault + w.archive archive
      archive_grows false w = omega (arith, sum_by-insert nat_cmp_total w.archive vault.archives number archive, ap (weight w.archive) archive_parts.1.0)
      archive_grows true w = omega (arith, sum_by-insert nat_cmp_total w.archive vault.held number archive, ap (weight w.archive) archive_parts.1.1)

    module _ (upload : Upload) (bare : upload.parts ≡ map.empty) (takes : takes_upload a number upload vault ≡ true) where
      upload_parts : IsDrawn a.counter (IsLawfulUpload a.last) number upload × ((map.get vault.uploads number ≡ None) × (map.get vault.finished number ≡ None))
      upload_parts =
          let all = and_parts _ _ takes in
          let free = neither _ _ (not_true _ all.1) in
          let size = and_parts _ _ all.0 in
          let past = and_parts _ _ size.0 in (
            record {
              drawn = lt_of _ _ past.0;
              right = record {
                part_size = size.1;
                created = le_of _ _ past.1;
                parts = λ index. subst (λ m. IfSome (map.get m index) (IsLawfulPart upload.part_size index)) (sym bare) (if_some-empty nat_cmp (IsLawfulPart upload.part_size index) index);
              };
            },
            (none_there _ free.0, none_there _ free.1),
          )

      pub right_with_upload : IsLawfulVault a.counter a.last (with_upload number upload vault)
      right_with_upload = right_uploads a vault lawful (map.insert vault.uploads number upload)
          (λ n. if_some-insert nat_cmp_total map.nat_cmp-IsAntisymmetric (IsDrawn a.counter (IsLawfulUpload a.last)) vault.uploads number n upload upload_parts.0 (lawful.uploads n))
          (stays_apart vault.uploads vault.finished number upload upload_parts.1.1 lawful.open_or_finished)

      pub upload_grows : (w : Weight) → vault_total w (with_upload number upload vault) ≡ vault_total w vault + w.upload upload
      upload_grows w =
          let alone : upload_total w upload ≡ w.upload upload = omega (arith, ap (λ m. sum_by w.part (map.values m)) bare, sum_by-empty nat_cmp w.part) in
          omega (arith, alone, sum_by-insert nat_cmp_total (upload_total w) vault.uploads number upload, ap (weight (upload_total w)) upload_parts.1.0)

    module _ (finished : Finished) (takes : takes_finished a number finished vault ≡ true) where
      pub right_with_finished : IsLawfulVault a.counter a.last (with_finished number finished vault)
      right_with_finished =
          let all = and_parts _ _ takes in
          let free = neither _ _ (not_true _ all.1) in
          let past = and_parts _ _ (and_parts _ _ all.0).0 in
          record {
            created = lawful.created;
            bytes = lawful.bytes;
            archives = lawful.archives;
            held = lawful.held;
            live_or_held = lawful.live_or_held;
            uploads = lawful.uploads;
            finished = λ n. if_some-insert nat_cmp_total map.nat_cmp-IsAntisymmetric (IsDrawn a.counter (λ (f : Finished). f.at ≤ a.last)) vault.finished number n finished
                (record { drawn = lt_of _ _ past.0; right = le_of _ _ past.1 }) (lawful.finished n);
            open_or_finished = comes_apart vault.finished vault.uploads number finished (none_there _ free.0) lawful.open_or_finished;
            jobs = lawful.jobs;
            named = lawful.named;
            lock = lawful.lock;
            due = refl;
          }

      pub finished_grows : (w : Weight) → vault_total w (with_finished number finished vault) ≡ vault_total w vault + w.finished finished
      finished_grows w =
          let none : map.get vault.finished number ≡ None = none_there _ (neither _ _ (not_true _ (and_parts _ _ takes).1)).1 in
          omega (arith, sum_by-insert nat_cmp_total w.finished vault.finished number finished, ap (weight w.finished) none)

    module _ (job : Job) (takes : takes_job a number job vault ≡ true) where
      job_parts : ((is_past a job.created number ≡ true) × (is_work a vault job.stage job.work ≡ true)) × (map.get vault.jobs number ≡ None)
      job_parts = let all = and_parts _ _ takes in (and_parts _ _ all.0, none_there _ (not_true _ all.1))

      of_size : (size : ℕ) (r : Option Archive) → has_size size r ≡ true → IfSome r (λ there. there.size ≡ size)
      of_size size None e = tt
      of_size size (Some there) e = eqb-true there.size size e

      kept_there : (done live : Bool) (held : Option Archive) → (not done || (live || is_some held)) ≡ true → IsTrue done → live ≡ false → IsSome held
      kept_there true false held e d none = e
      kept_there true true held e d none = cc
      kept_there false live held e d none = cc

      right_work : (work : Work) → is_work a vault job.stage work ≡ true → IsLawfulWork a.counter vault.archives vault.held job.stage work
      right_work (works.Inventory csv) e = tt
      right_work (works.Archive archive size tree first end range) e =
          let all = and_parts _ _ e in
          let held = and_parts _ _ all.0 in
          let live = and_parts _ _ held.0 in
          let within = and_parts _ _ live.0 in
          let some = and_parts _ _ within.0 in
          record {
            number = lt_of _ _ some.0;
            some = lt_of _ _ some.1;
            within = le_of _ _ within.1;
            live_size = of_size size (map.get vault.archives archive) live.1;
            held_size = of_size size (map.get vault.held archive) held.1;
            kept = λ done gone. kept_there (is_done job.stage) (map.contains_key vault.archives archive) (map.get vault.held archive) all.1 done (ap (λ r. is_some r) gone);
          }

      pub right_with_job : IsLawfulVault a.counter a.last (with_job number job vault)
      right_with_job =
          let past = and_parts _ _ job_parts.0.0 in
          right_jobs a vault lawful (map.insert vault.jobs number job) _ refl
          (λ n. if_some-insert nat_cmp_total map.nat_cmp-IsAntisymmetric (IsDrawn a.counter (IsLawfulJob a.counter a.last vault.archives vault.held)) vault.jobs number n job
          (record { drawn = lt_of _ _ past.0; right = record { created = le_of _ _ past.1; work = right_work job.work job_parts.0.1 } }) (lawful.jobs n))

      pub job_grows : (w : Weight) → vault_total w (with_job number job vault) ≡ vault_total w vault + w.job job
      job_grows w = omega (arith, sum_by-insert nat_cmp_total w.job vault.jobs number job, ap (weight w.job) job_parts.1)

  -- where there is no lock none counts
  no_lock_counts : (w : Weight) (lock : Option Lock) → is_none lock ≡ true → lock_total w lock ≡ 0
  no_lock_counts w None free = refl
  no_lock_counts w (Some lock) free = cc

  pub lock_grows : (lock : Lock) → is_none vault.lock ≡ true → (w : Weight) → vault_total w (with_lock lock vault) ≡ vault_total w vault + w.lock lock
  lock_grows lock free w = omega (arith, no_lock_counts w vault.lock free)

  pub right_with_lock : (lock : Lock) → IsLawfulLock a.counter a.last lock → IsLawfulVault a.counter a.last (with_lock lock vault)
  right_with_lock lock right = record {
    created = lawful.created;
    bytes = lawful.bytes;
    archives = lawful.archives;
    held = lawful.held;
    live_or_held = lawful.live_or_held;
    uploads = lawful.uploads;
    finished = lawful.finished;
    open_or_finished = lawful.open_or_finished;
    jobs = lawful.jobs;
    named = lawful.named;
    lock = right;
    due = lawful.due;
  }
