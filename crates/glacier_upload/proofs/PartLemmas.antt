-- What a part leaves.
use Rattle.std.specs.Prelude.{◌≡◌, ℕ, ◌≤◌, ◌<◌, ◌+◌, ◌-◌, cond, List, length, Option, Some, None, nat_eq, sum_by}
use Rattle.std.specs.Cmp.{nat_cmp_total}
use Rattle.std.specs.FinMap as map
use Rattle.std.proofs.Common.{◌∙◌, ap, sym, refl, subst, arith}
use Rattle.glacier_base.specs.Maps.{changed_at}
use Rattle.glacier_base.proofs.LookUps.{if_some-insert}
use Rattle.glacier_base.proofs.Sums.{weight, sum_by-remove}
use Rattle.glacier_vault.specs.Due.{due_in}
use Rattle.glacier_vault.specs.Lawful.{IsLawful, IsLawfulVault, IsLawfulUpload, IsLawfulPart}
use Rattle.glacier_vault.specs.Lengths.{lengths, part_length, snapshot_length}
use Rattle.glacier_vault.specs.Rows.{in_vault, drawn}
use Rattle.glacier_vault.specs.Totals.{Weight, vault_total, total, blocks, each_upload, each_job, need, naming, used_in, uploads_in, jobs_in}
use Rattle.glacier_vault.specs.declared.archive.Part.{Part}
use Rattle.glacier_vault.specs.declared.archive.Upload.{Upload}
use Rattle.glacier_vault.specs.declared.state.AccountState.{AccountState}
use Rattle.glacier_vault.specs.declared.state.VaultState.{VaultState}
use Rattle.glacier_vault.proofs.DueLemmas.{due_in-same}
use Rattle.glacier_vault.proofs.KeepsLawful.{lawful-changed_at, lawful_there}
use Rattle.glacier_vault.proofs.Later.{later_vault}
use Rattle.glacier_vault.proofs.LengthLemmas.{length-changed_at}
use Rattle.glacier_vault.proofs.PartSizeLemmas.{part_size-some}
use Rattle.glacier_vault.proofs.TotalsLemmas.{total-changed_at, total-remove}
use Rattle.glacier_upload.specs.Parts.{with_part, in_upload, replaced_room, replaced_length, IsNewPart}
use Rattle.glacier_upload.proofs.OpenLemmas.{same_open}
use Rattle.glacier_upload.proofs.SameText.{hit, hit_none, hit-le-one}
use Rattle.glacier_upload.proofs.UploadMaps.{upload_total-with_part, total-in_upload, total-without_upload, lawful-in_upload, upload_there}

module _ (a : AccountState) (m : ℕ) (le : a.last ≤ m) (lawful : IsLawful a) (name : List ℕ) (vault : VaultState) (there : map.get a.vaults name ≡ Some vault)
    (number : ℕ) (upload : Upload) (is_open : map.get vault.uploads number ≡ Some upload) where
  right_vault : IsLawfulVault a.counter a.last vault
  right_vault = lawful_there a a.counter a.last (omega arith) (omega arith) lawful name vault there

  pub right_upload : IsLawfulUpload a.last upload
  right_upload = (upload_there a.counter a.last vault right_vault number upload is_open).right

  pub part_size_some : 0 < upload.part_size
  part_size_some = omega (arith, part_size-some upload.part_size right_upload.part_size)

  module _ (index : ℕ) where
    -- the part that was there is within each total
    pub part_within : (w : Weight) → weight w.part (map.get upload.parts index) ≤ total w a.vaults
    part_within w = omega (arith, upload_total-without w, total-remove w a.vaults name vault there, total-without_upload a.counter a.last vault right_vault number upload is_open w)
      where
        upload_total-without : (w : Weight) → weight w.part (map.get upload.parts index) ≤ sum_by w.part (map.values upload.parts)
        upload_total-without w = omega (arith, sum_by-remove nat_cmp_total w.part map.nat_cmp-IsAntisymmetric upload.parts index)

  module _ (index : ℕ) (part : Part) where
    -- where a weight counts no parts with an upload
    abbrev CountsApart : Weight → Type 0
    CountsApart w = w.upload (with_part index part upload) ≡ w.upload upload

    pub balance : (w : Weight) → CountsApart w → vault_total w (in_upload number (with_part index part) vault) + weight w.part (map.get upload.parts index) ≡ vault_total w vault + w.part part
    balance w same = omega (arith, total-in_upload a.counter a.last vault right_vault number upload is_open w (with_part index part), upload_total-with_part w index part upload same)

    -- what the part adds to each total, in place of the one that was there
    pub total-with_part : (w : Weight) → CountsApart w → total w (changed_at (in_upload number (with_part index part)) a.vaults name) + weight w.part (map.get upload.parts index) ≡ total w a.vaults + w.part part
    total-with_part w same = omega (arith, balance w same, total-changed_at w a.vaults name vault there (in_upload number (with_part index part)), total-remove w a.vaults name vault there)

    room_is : replaced_room upload index ≡ weight blocks.part (map.get upload.parts index)
    room_is = elim (map.get upload.parts index) as (λ r. elim r [ None ↦ 0 | Some old ↦ need old.size ] ≡ weight blocks.part r) [ None ↦ refl | Some old ↦ refl ]

    length_is : (n : ℕ) → replaced_length n upload index ≡ weight (part_length n) (map.get upload.parts index)
    length_is n = elim (map.get upload.parts index) as (λ r. elim r [ None ↦ 0 | Some old ↦ part_length n old ] ≡ weight (part_length n) r) [ None ↦ refl | Some old ↦ refl ]

    length_balance : snapshot_length (changed_at (in_upload number (with_part index part)) a.vaults name) + replaced_length (length name) upload index ≡ a.length + part_length (length name) part
    length_balance = omega (arith, lawful.length, length-changed_at a.vaults name vault there (in_upload number (with_part index part)), balance (lengths (length name)) refl, length_is (length name))

    module _ (n : ℕ) (is : n ≡ length name) where
      -- the part that was there is counted
      pub length_replaced : replaced_length n upload index ≤ a.length + part_length n part
      length_replaced = subst (λ n. replaced_length n upload index ≤ a.length + part_length n part) (sym is) (omega (arith, length_balance))

      pub length-with_part : (left : ℕ) → left + replaced_length n upload index ≡ a.length + part_length n part → left ≡ snapshot_length (changed_at (in_upload number (with_part index part)) a.vaults name)
      length-with_part left e =
          let here = subst (λ n. left + replaced_length n upload index ≡ a.length + part_length n part) is e in
          omega (arith, here, length_balance)

    -- what weighs nothing
    nothing : (r : Option Part) → weight (λ part. 0) r ≡ 0
    nothing None = refl
    nothing (Some part) = refl

    pub room_replaced : replaced_room upload index ≤ a.used + need part.size
    room_replaced = omega (arith, lawful.used, total-with_part blocks refl, room_is)

    pub used-with_part : a.used + need part.size - replaced_room upload index ≡ used_in (changed_at (in_upload number (with_part index part)) a.vaults name)
    used-with_part = omega (arith, lawful.used, total-with_part blocks refl, room_is, room_replaced)

    pub uploads-with_part : a.uploads ≡ uploads_in (changed_at (in_upload number (with_part index part)) a.vaults name)
    uploads-with_part = omega (arith, lawful.uploads, total-with_part each_upload refl, nothing (map.get upload.parts index))

    pub jobs-with_part : a.jobs ≡ jobs_in (changed_at (in_upload number (with_part index part)) a.vaults name)
    jobs-with_part = omega (arith, lawful.jobs, total-with_part each_job refl, nothing (map.get upload.parts index))

    pub due-with_part : a.due ≡ due_in (changed_at (in_upload number (with_part index part)) a.vaults name)
    due-with_part = lawful.due ∙ sym (due_in-same a.vaults name vault there (in_upload number (with_part index part)) refl)

    pub lawful-with_part : IsLawfulPart upload.part_size index part → part.blob ≡ a.counter → IsLawful (in_vault (drawn a) m name (in_upload number (with_part index part)))
    lawful-with_part right blob_is = lawful-changed_at a (a.counter + 1) m (omega arith) le lawful name vault there (in_upload number (with_part index part))
        (lawful-in_upload (a.counter + 1) m vault later number upload is_open (with_part index part)
        (record {
          part_size = right_upload.part_size;
          created = omega (arith, right_upload.created);
          parts = λ i. if_some-insert nat_cmp_total map.nat_cmp-IsAntisymmetric (IsLawfulPart upload.part_size) upload.parts index i part right (right_upload.parts i);
        }))
        (record {
          old = λ blob side. omega (arith, balance (naming blob) refl, named blob, hit_none a.counter blob side);
          new = λ blob. omega (arith, balance (naming blob) refl, named blob, hit-le-one a.counter blob);
        })
      where
        later : IsLawfulVault (a.counter + 1) m vault
        later = later_vault a.counter (a.counter + 1) (omega arith) a.last m le vault right_vault

        named : (blob : ℕ) → cond (nat_eq part.blob blob) 1 0 ≡ hit a.counter blob
        named blob = ap (λ n. hit n blob) blob_is

    -- a part that fits is right in its upload
    pub fits_right : IsNewPart a name number index part → IsLawfulPart upload.part_size index part
    fits_right fits = subst (λ (u : Upload). IsLawfulPart u.part_size index part) (same_open a name number vault upload there is_open fits.upload fits.there) fits.right
