-- A lawful vault of which an open upload takes a part in, or a job a line.
use Rattle.std.specs.Prelude.{◌≡◌, ℕ, ◌+◌, Bool, true, false, cond, List, [], Option, Some, None, IfSome}
use Rattle.std.specs.Cmp.{nat_cmp_total}
use Rattle.std.specs.FinMap as map
use Rattle.std.specs.Option.{option_map}
use Rattle.std.specs.Ordering.{nat_cmp, eq_by_cmp}
use Rattle.std.proofs.Common.{◌∙◌, ap, sym, refl, subst, arith}
use Rattle.std.proofs.lemmas.Bool.{and_parts}
use Rattle.std.proofs.lemmas.List.Sums.{sum_by_push}
use Rattle.glacier_base.proofs.Changed.{get-changed_at}
use Rattle.glacier_base.proofs.LookUps.{if_some-insert, if_some-changed_at}
use Rattle.glacier_base.proofs.Sums.{weight, sum_by-insert, sum_by-changed_at}
use Rattle.glacier_vault.specs.Lawful.{IsLawfulBody, IsLawfulPart, IsLawfulUpload, IsLawfulJob, IsLawfulWork, IsLawfulVault, IsDrawn}
use Rattle.glacier_vault.specs.Lengths.{lengths, line_length, lines_length, job_length}
use Rattle.glacier_vault.specs.Totals.{Weight, vault_total, upload_total}
use Rattle.glacier_vault.specs.declared.archive.Part.{Part}
use Rattle.glacier_vault.specs.declared.archive.Upload.{Upload}
use Rattle.glacier_vault.specs.declared.job.Job.{Job}
use Rattle.glacier_vault.specs.declared.job.Line.{Line}
use Rattle.glacier_vault.specs.declared.job.Stage.{Stage}
use Rattle.glacier_vault.specs.declared.job.Stage.TheVariants as stages
use Rattle.glacier_vault.specs.declared.job.Work.{Work}
use Rattle.glacier_vault.specs.declared.job.Work.TheVariants as works
use Rattle.glacier_vault.specs.declared.state.AccountState.{AccountState}
use Rattle.glacier_vault.specs.declared.state.VaultState.{VaultState}
use Rattle.glacier_restore.specs.Fitting.{takes_part, takes_line}
use Rattle.glacier_restore.specs.Putting.{with_part, in_upload, one_line_more, with_line, in_job}
use Rattle.glacier_restore.specs.Snapshot.{lines_of}
use Rattle.glacier_restore.proofs.MomentLemmas.{content_due-line}
use Rattle.glacier_restore.proofs.NamedLemmas.{not_true}
use Rattle.glacier_restore.proofs.VaultLemmas.{le_of, none_there, right_uploads, right_jobs}

-- what has no lines has no bytes of lines
pub lines_length-none : (n : ℕ) (stage : Stage) → lines_of stage ≡ [] → lines_length n stage ≡ 0
lines_length-none n stages.Waiting none = refl
lines_length-none n stages.Failed none = refl
lines_length-none n (stages.Done lines) none = ap (λ l. lines_length n (stages.Done l)) none

-- an inventory that takes a line in is so much longer
lines_longer : (n : ℕ) (line : Line) (work : Work) (stage : Stage) → takes_line line work stage ≡ true → lines_length n (one_line_more line stage) ≡ lines_length n stage + line_length n line
lines_longer n line (works.Archive archive size tree first end range) stage takes = cc
lines_longer n line (works.Inventory csv) stages.Waiting takes = cc
lines_longer n line (works.Inventory csv) stages.Failed takes = cc
lines_longer n line (works.Inventory csv) (stages.Done lines) takes = sum_by_push (line_length n) lines line

job_longer : (n : ℕ) (line : Line) (job : Job) → takes_line line job.work job.stage ≡ true → job_length n (with_line line job) ≡ job_length n job + line_length n line
job_longer n line job takes = omega (arith, lines_longer n line job.work job.stage takes)

module _ (a : AccountState) (vault : VaultState) (lawful : IsLawfulVault a.counter a.last vault) (number : ℕ) where
  module _ (upload : Upload) (is_open : map.get vault.uploads number ≡ Some upload) (index : ℕ) (part : Part) (takes : takes_part a index part upload ≡ true) where
    upload_there : IsDrawn a.counter (IsLawfulUpload a.last) number upload
    upload_there = subst (λ r. IfSome r (IsDrawn a.counter (IsLawfulUpload a.last) number)) is_open (lawful.uploads number)

    none_at : map.get upload.parts index ≡ None
    none_at = none_there _ (not_true _ (and_parts _ _ takes).1)

    module _ (body : IsLawfulBody part.size part.leaves part.tree) where
      right_part : IsLawfulPart upload.part_size index part
      right_part =
          let place = and_parts _ _ (and_parts _ _ (and_parts _ _ takes).0).0 in
          record { low = le_of _ _ place.0; body = body; most = le_of _ _ place.1 }

      right_after : IsDrawn a.counter (IsLawfulUpload a.last) number (with_part index part upload)
      right_after = record {
        drawn = upload_there.drawn;
        right = record {
          part_size = upload_there.right.part_size;
          created = upload_there.right.created;
          parts = λ i. if_some-insert nat_cmp_total map.nat_cmp-IsAntisymmetric (IsLawfulPart upload.part_size) upload.parts index i part right_part (upload_there.right.parts i);
        };
      }

      pub right_with_part : IsLawfulVault a.counter a.last (in_upload number index part vault)
      right_with_part = right_uploads a vault lawful _
          (λ n. if_some-changed_at nat_cmp_total map.nat_cmp-IsAntisymmetric (IsDrawn a.counter (IsLawfulUpload a.last)) vault.uploads number n (with_part index part)
          (λ v e. subst (λ r. IfSome r (λ v. IsDrawn a.counter (IsLawfulUpload a.last) number (with_part index part v))) (sym is_open ∙ e) right_after) (lawful.uploads n))
          (λ n some. get-changed_at nat_cmp_total (with_part index part) vault.uploads number n ∙ none (eq_by_cmp nat_cmp n number) (map.get vault.uploads n) (lawful.open_or_finished n some))
        where
          none : (b : Bool) (r : Option Upload) → r ≡ None → cond b (option_map (with_part index part) r) r ≡ None
          none true r e = ap (option_map (with_part index part)) e
          none false r e = e

    -- by a weight for which the upload counts as before
    pub part_grows : (w : Weight) → w.upload (with_part index part upload) ≡ w.upload upload → vault_total w (in_upload number index part vault) ≡ vault_total w vault + w.part part
    part_grows w same =
        let more : upload_total w (with_part index part upload) ≡ upload_total w upload + w.part part = omega (arith, same, sum_by-insert nat_cmp_total w.part upload.parts index part, ap (weight w.part) none_at) in
        omega (arith, more, sum_by-changed_at nat_cmp_total (upload_total w) map.nat_cmp-IsAntisymmetric vault.uploads number (with_part index part) upload is_open)

  module _ (job : Job) (there : map.get vault.jobs number ≡ Some job) (line : Line) where
    module _ (takes : takes_line line job.work job.stage ≡ true) where
      job_there : IsDrawn a.counter (IsLawfulJob a.counter a.last vault.archives vault.held) number job
      job_there = subst (λ r. IfSome r (IsDrawn a.counter (IsLawfulJob a.counter a.last vault.archives vault.held) number)) there (lawful.jobs number)

      -- what takes a line in is an inventory
      still_work : (stage after : Stage) (work : Work) → takes_line line work stage ≡ true → IsLawfulWork a.counter vault.archives vault.held after work
      still_work stage after (works.Inventory csv) e = tt
      still_work stage after (works.Archive archive size tree first end range) e = cc

      job_after : IsDrawn a.counter (IsLawfulJob a.counter a.last vault.archives vault.held) number (with_line line job)
      job_after = record { drawn = job_there.drawn; right = record { created = job_there.right.created; work = still_work job.stage _ job.work takes } }

      pub right_with_line : IsLawfulVault a.counter a.last (in_job number line vault)
      right_with_line = right_jobs a vault lawful _ vault.due (lawful.due ∙ sym (content_due-line vault number job there line))
          (λ n. if_some-changed_at nat_cmp_total map.nat_cmp-IsAntisymmetric (IsDrawn a.counter (IsLawfulJob a.counter a.last vault.archives vault.held)) vault.jobs number n (with_line line)
          (λ v e. subst (λ r. IfSome r (λ v. IsDrawn a.counter (IsLawfulJob a.counter a.last vault.archives vault.held) number (with_line line v))) (sym there ∙ e) job_after) (lawful.jobs n))

    line_balance : (w : Weight) → vault_total w (in_job number line vault) + w.job job ≡ vault_total w vault + w.job (with_line line job)
    line_balance w = omega (arith, sum_by-changed_at nat_cmp_total w.job map.nat_cmp-IsAntisymmetric vault.jobs number (with_line line) job there)

    -- by a weight for which the job counts as before
    pub line_same : (w : Weight) → w.job (with_line line job) ≡ w.job job → vault_total w (in_job number line vault) ≡ vault_total w vault + 0
    line_same w same = omega (arith, same, line_balance w)

    pub line_longer : (n : ℕ) → takes_line line job.work job.stage ≡ true → vault_total (lengths n) (in_job number line vault) ≡ vault_total (lengths n) vault + line_length n line
    line_longer n takes = omega (arith, line_balance (lengths n), job_longer n line job takes)
