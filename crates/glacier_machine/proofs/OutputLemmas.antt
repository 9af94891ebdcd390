-- The output of a job is a stretch of its archive.
use Rattle.std.specs.Prelude.{◌≡◌, ◌≤◌, ℕ, List, Option, Result, Ok, Err, IfSome, true}
use Rattle.std.proofs.Common.{refl, subst, arith}
use Rattle.glacier_job.specs.Finding.{found_job, output_of}
use Rattle.glacier_vault.specs.Lawful.{IsLawful}
use Rattle.glacier_vault.specs.Named.{is_done}
use Rattle.glacier_vault.specs.declared.job.Job.{Job}
use Rattle.glacier_vault.specs.declared.job.Work.{Work}
use Rattle.glacier_vault.specs.declared.job.Work.TheVariants as works
use Rattle.glacier_vault.specs.declared.refusal.Refusal.{Refusal}
use Rattle.glacier_vault.specs.declared.state.AccountState.{AccountState}
use Rattle.glacier_machine.specs.JobSteps.{HasBytes, output_length, output_answer, part_answer, found_answer, job_output_step}
use Rattle.glacier_machine.specs.Outputs.{IsOutputOf}
use Rattle.glacier_machine.proofs.JobLemmas.{found_bytes, found_archive, output_is_done, output_order, output_end}

module _ (account : AccountState) (lawful : IsLawful account) (name : List ℕ) (number : ℕ) (asked : Option (ℕ × ℕ))
    (inventory : List ℕ) (order : IfSome asked (λ r. r.0 ≤ r.1)) where
  module _ (job : Job) (found : found_job account name number ≡ Ok job) where
    by_work : (part : ℕ × ℕ) → is_done job.stage ≡ true → part.0 ≤ part.1 → (work : Work) → job.work ≡ work
        → part.1 ≤ output_length work inventory
        → IfSome (output_answer account name work asked inventory part).stretch (IsOutputOf account name number)
    by_work part done rising (works.Inventory csv) work within = tt
    by_work part done rising (works.Archive k size tree first end range) work within =
        let there = found_archive account lawful name number job found done k size tree first end range work in
        let bytes : HasBytes account name (works.Archive k size tree first end range) =
        subst (HasBytes account name) work (found_bytes account lawful name number job found) in
        let rising_range = bytes.0 in
        let size_is = there.2 in
        let in_size = there.3 in
        record {
          job = job;
          found = found;
          size = size;
          tree = tree;
          first = first;
          end = end;
          range = range;
          work = work;
          archive = there.0;
          stored = there.1;
          vault = refl;
          from = omega arith;
          order = omega (arith, rising);
          to = omega (arith, within, rising_range);
          within = omega (arith, within, rising_range, size_is, in_size);
        }

    by_part : (r : Result (ℕ × ℕ) Refusal) → output_of job (output_length job.work inventory) asked ≡ r
        → IfSome (part_answer account name job.work asked inventory r).stretch (IsOutputOf account name number)
    by_part (Err refusal) is = tt
    by_part (Ok part) is =
        by_work part (output_is_done job (output_length job.work inventory) asked part is)
        (output_order job (output_length job.work inventory) asked part is order) job.work refl
        (output_end job (output_length job.work inventory) asked part is order)

  by_found : (r : Result Job Refusal) → found_job account name number ≡ r
      → IfSome (found_answer account name asked inventory r).stretch (IsOutputOf account name number)
  by_found (Err refusal) is = tt
  by_found (Ok job) is = by_part job is (output_of job (output_length job.work inventory) asked) refl

  pub output_is_a_stretch : IfSome (job_output_step name number asked inventory account).answer.stretch (IsOutputOf account name number)
  output_is_a_stretch = by_found (found_job account name number) refl
