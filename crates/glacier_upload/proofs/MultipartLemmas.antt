-- What the beginning of an upload in parts leaves, and its end without an archive.
use Rattle.std.specs.Prelude.{◌≡◌, ℕ, ◌≤◌, ◌+◌, ◌-◌, Bool, true, false, cond, not, List, length, Some, None, nat_le, sum_by}
use Rattle.std.specs.FinMap as map
use Rattle.std.specs.Ordering.{nat_cmp}
use Rattle.std.proofs.Common.{◌∙◌, ap, sym, refl, subst, arith}
use Rattle.glacier_base.specs.Maps.{changed_at}
use Rattle.glacier_base.proofs.LookUps.{if_some-empty}
use Rattle.glacier_vault.specs.Due.{due_in}
use Rattle.glacier_vault.specs.Lawful.{IsLawful, IsLawfulVault, IsLawfulUpload, IsLawfulPart}
use Rattle.glacier_vault.specs.Lengths.{lengths, upload_length, snapshot_length}
use Rattle.glacier_vault.specs.PartSizes.{is_part_size}
use Rattle.glacier_vault.specs.Rows.{in_vault, drawn, draw_refusal}
use Rattle.glacier_vault.specs.Totals.{Weight, vault_total, total, upload_total, blocks, each_upload, each_job, naming, used_in, uploads_in, jobs_in}
use Rattle.glacier_vault.specs.declared.archive.Upload.{Upload}
use Rattle.glacier_vault.specs.declared.refusal.Refusal.TheVariants.{BadPartSize, NoVault, UploadLimit}
use Rattle.glacier_vault.specs.declared.state.AccountState.{AccountState}
use Rattle.glacier_vault.specs.declared.state.VaultState.{VaultState}
use Rattle.glacier_vault.proofs.DueLemmas.{due_in-same}
use Rattle.glacier_vault.proofs.KeepsLawful.{lawful-changed_at, lawful_there}
use Rattle.glacier_vault.proofs.Later.{later_vault}
use Rattle.glacier_vault.proofs.LengthLemmas.{length-changed_at}
use Rattle.glacier_vault.proofs.TotalsLemmas.{sum_by-empty, sum_by-none, total-changed_at, total-remove}
use Rattle.glacier_upload.specs.Uploads.{begin_refusal, new_upload, with_upload, without_upload, IsNewUpload}
use Rattle.glacier_upload.specs.declared.beginning.TheConstants.{MOST_UPLOADS}
use Rattle.glacier_upload.proofs.DrawLemmas.{drawn_left}
use Rattle.glacier_upload.proofs.UploadMaps.{total-with_upload, lawful-with_upload, total-without_upload, lawful-without_upload}

-- an upload without parts counts by itself
pub upload_total-bare : (w : Weight) (upload : Upload) → upload.parts ≡ map.empty → upload_total w upload ≡ w.upload upload
upload_total-bare w upload bare = omega (arith, ap (λ m. sum_by w.part (map.values m)) bare, sum_by-empty nat_cmp w.part)

lawful-new : (m part_size : ℕ) (description : List ℕ) → is_part_size part_size ≡ true → IsLawfulUpload m (new_upload m part_size description)
lawful-new m part_size description right = record { part_size = right; created = omega arith; parts = λ index. if_some-empty nat_cmp (IsLawfulPart part_size index) index }

-- a beginning that isn't refused
pub fits_begin : (a : AccountState) (m : ℕ) (name : List ℕ) (part_size : ℕ) (description : List ℕ) → begin_refusal a name part_size ≡ None → IsNewUpload a m name (new_upload m part_size description)
fits_begin a m name part_size description = at (is_part_size part_size) refl (map.contains_key a.vaults name) refl (nat_le MOST_UPLOADS (uploads_in a.vaults))
  where
    at : (right : Bool) → is_part_size part_size ≡ right → (there : Bool) → map.contains_key a.vaults name ≡ there → (full : Bool)
        → cond (not right) (Some BadPartSize) (cond (not there) (Some (NoVault name)) (cond full (Some UploadLimit) (draw_refusal a))) ≡ None
        → IsNewUpload a m name (new_upload m part_size description)
    at false right there t full e = cc
    at true right false t full e = cc
    at true right true t true e = cc
    at true right true t false e = record { vault = t; left = drawn_left a e; right = lawful-new m part_size description right; bare = refl }

module _ (a : AccountState) (m : ℕ) (le : a.last ≤ m) (lawful : IsLawful a) (name : List ℕ) (vault : VaultState) (there : map.get a.vaults name ≡ Some vault) where
  right_vault : IsLawfulVault a.counter a.last vault
  right_vault = lawful_there a a.counter a.last (omega arith) (omega arith) lawful name vault there

  later : IsLawfulVault a.counter m vault
  later = later_vault a.counter a.counter (omega arith) a.last m le vault right_vault

  module _ (upload : Upload) (bare : upload.parts ≡ map.empty) where
    begun : (w : Weight) → vault_total w (with_upload a.counter upload vault) ≡ vault_total w vault + w.upload upload
    begun w = omega (arith, total-with_upload a.counter a.last vault right_vault upload w, upload_total-bare w upload bare)

    -- what a new upload adds to each total
    pub total-begun : (w : Weight) → total w (changed_at (with_upload a.counter upload) a.vaults name) ≡ total w a.vaults + w.upload upload
    total-begun w = omega (arith, begun w, total-changed_at w a.vaults name vault there (with_upload a.counter upload))

    pub used-begun : a.used ≡ used_in (changed_at (with_upload a.counter upload) a.vaults name)
    used-begun = omega (arith, lawful.used, total-begun blocks)

    pub uploads-begun : a.uploads + 1 ≡ uploads_in (changed_at (with_upload a.counter upload) a.vaults name)
    uploads-begun = omega (arith, lawful.uploads, total-begun each_upload)

    pub jobs-begun : a.jobs ≡ jobs_in (changed_at (with_upload a.counter upload) a.vaults name)
    jobs-begun = omega (arith, lawful.jobs, total-begun each_job)

    pub length-begun : (n : ℕ) → n ≡ length name → (long : ℕ) → long ≡ a.length + upload_length n upload → long ≡ snapshot_length (changed_at (with_upload a.counter upload) a.vaults name)
    length-begun n is long e =
        let here = subst (λ n. long ≡ a.length + upload_length n upload) is e in
        omega (arith, here, lawful.length, length-changed_at a.vaults name vault there (with_upload a.counter upload), begun (lengths (length name)))

    pub due-begun : a.due ≡ due_in (changed_at (with_upload a.counter upload) a.vaults name)
    due-begun = lawful.due ∙ sym (due_in-same a.vaults name vault there (with_upload a.counter upload) refl)

    pub lawful-begun : IsLawfulUpload m upload → IsLawful (in_vault (drawn a) m name (with_upload a.counter upload))
    lawful-begun right = lawful-changed_at a (a.counter + 1) m (omega arith) le lawful name vault there (with_upload a.counter upload)
        (lawful-with_upload a.counter m vault later upload right)
        (record { old = λ blob _. omega (arith, begun (naming blob)); new = λ blob. omega (arith, begun (naming blob)) })

  module _ (number : ℕ) (upload : Upload) (is_open : map.get vault.uploads number ≡ Some upload) where
    pub balance : (w : Weight) → vault_total w (without_upload number vault) + upload_total w upload ≡ vault_total w vault
    balance w = total-without_upload a.counter a.last vault right_vault number upload is_open w

    -- what the account has but for the upload
    pub total-aborted : (w : Weight) → total w (changed_at (without_upload number) a.vaults name) + upload_total w upload ≡ total w a.vaults
    total-aborted w = omega (arith, balance w, total-changed_at w a.vaults name vault there (without_upload number), total-remove w a.vaults name vault there)

    pub upload_within : sum_by blocks.part (map.values upload.parts) ≤ a.used
    upload_within = omega (arith, lawful.used, total-aborted blocks)

    pub used-aborted : a.used - sum_by blocks.part (map.values upload.parts) ≡ used_in (changed_at (without_upload number) a.vaults name)
    used-aborted = omega (arith, lawful.used, total-aborted blocks)

    pub upload_counted : 1 ≤ a.uploads
    upload_counted = omega (arith, lawful.uploads, total-aborted each_upload)

    pub uploads-aborted : a.uploads - 1 ≡ uploads_in (changed_at (without_upload number) a.vaults name)
    uploads-aborted = omega (arith, lawful.uploads, total-aborted each_upload, sum_by-none (map.values upload.parts))

    pub jobs-aborted : a.jobs ≡ jobs_in (changed_at (without_upload number) a.vaults name)
    jobs-aborted = omega (arith, lawful.jobs, total-aborted each_job, sum_by-none (map.values upload.parts))

    length_balance : snapshot_length (changed_at (without_upload number) a.vaults name) + upload_total (lengths (length name)) upload ≡ a.length
    length_balance = omega (arith, lawful.length, balance (lengths (length name)), length-changed_at a.vaults name vault there (without_upload number))

    module _ (n : ℕ) (is : n ≡ length name) where
      pub length_within : upload_total (lengths n) upload ≤ a.length
      length_within = subst (λ n. upload_total (lengths n) upload ≤ a.length) (sym is) (omega (arith, length_balance))

      pub length-aborted : (left : ℕ) → left + upload_total (lengths n) upload ≡ a.length → left ≡ snapshot_length (changed_at (without_upload number) a.vaults name)
      length-aborted left e =
          let here = subst (λ n. left + upload_total (lengths n) upload ≡ a.length) is e in
          omega (arith, here, length_balance)

    pub due-aborted : a.due ≡ due_in (changed_at (without_upload number) a.vaults name)
    due-aborted = lawful.due ∙ sym (due_in-same a.vaults name vault there (without_upload number) refl)

    pub lawful-aborted : IsLawful (in_vault a m name (without_upload number))
    lawful-aborted = lawful-changed_at a a.counter m (omega arith) le lawful name vault there (without_upload number)
        (lawful-without_upload a.counter m vault later number)
        (record { old = λ blob _. omega (arith, balance (naming blob)); new = λ blob. omega (arith, balance (naming blob)) })
