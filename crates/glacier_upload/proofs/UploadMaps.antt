-- A vault in which open uploads begin, change and end.
use Rattle.std.specs.Prelude.{◌≡◌, ℕ, ◌≤◌, ◌+◌, Bool, true, false, cond, Option, Some, None, IfSome}
use Rattle.std.specs.Cmp.{nat_cmp_total}
use Rattle.std.specs.FinMap as map
use Rattle.std.specs.Option.{option_map}
use Rattle.std.specs.Ordering.{nat_cmp, eq_by_cmp}
use Rattle.std.proofs.Common.{◌∙◌, ap, sym, refl, subst, arith}
use Rattle.glacier_base.proofs.Changed.{get-changed_at}
use Rattle.glacier_base.proofs.LookUps.{if_some-insert, if_some-remove, if_some-changed_at}
use Rattle.glacier_base.proofs.Sums.{weight, sum_by-insert, sum_by-remove, sum_by-changed_at}
use Rattle.glacier_vault.specs.Lawful.{IsLawfulVault, IsLawfulUpload, IsDrawn}
use Rattle.glacier_vault.specs.Totals.{Weight, vault_total, upload_total}
use Rattle.glacier_vault.specs.declared.archive.Finished.{Finished}
use Rattle.glacier_vault.specs.declared.archive.Part.{Part}
use Rattle.glacier_vault.specs.declared.archive.Upload.{Upload}
use Rattle.glacier_vault.specs.declared.state.VaultState.{VaultState}
use Rattle.glacier_vault.proofs.Fresh.{fresh, other_than_next}
use Rattle.glacier_vault.proofs.Later.{later_vault}
use Rattle.glacier_upload.specs.Parts.{with_part, in_upload}
use Rattle.glacier_upload.specs.Uploads.{with_upload, without_upload}

-- a part in place of the one that was there
pub upload_total-with_part : (w : Weight) (index : ℕ) (part : Part) (upload : Upload) → w.upload (with_part index part upload) ≡ w.upload upload
    → upload_total w (with_part index part upload) + weight w.part (map.get upload.parts index) ≡ upload_total w upload + w.part part
upload_total-with_part w index part upload same = omega (arith, same, sum_by-insert nat_cmp_total w.part upload.parts index part)

module _ (counter last : ℕ) (vault : VaultState) (lawful : IsLawfulVault counter last vault) where
  module _ (upload : Upload) where
    pub total-with_upload : (w : Weight) → vault_total w (with_upload counter upload vault) ≡ vault_total w vault + upload_total w upload
    total-with_upload w =
        let none = fresh (λ _. IsLawfulUpload last) counter vault.uploads lawful.uploads in
        omega (arith, sum_by-insert nat_cmp_total (upload_total w) vault.uploads counter upload, ap (weight (upload_total w)) none)

    pub lawful-with_upload : IsLawfulUpload last upload → IsLawfulVault (counter + 1) last (with_upload counter upload vault)
    lawful-with_upload right =
        let up = later_vault counter (counter + 1) (omega arith) last last (omega arith) vault lawful in
        record {
          created = lawful.created;
          bytes = lawful.bytes;
          archives = up.archives;
          held = up.held;
          live_or_held = lawful.live_or_held;
          uploads = λ n. if_some-insert nat_cmp_total map.nat_cmp-IsAntisymmetric (IsDrawn (counter + 1) (IsLawfulUpload last)) vault.uploads counter n upload (record { drawn = omega arith; right = right }) (up.uploads n);
          finished = up.finished;
          open_or_finished = λ n some.
              map.get-insert nat_cmp_total vault.uploads counter upload n
              ∙ ap (λ b. cond b (Some upload) (map.get vault.uploads n)) (other_than_next (λ (f : Finished). f.at ≤ last) counter n (map.get vault.finished n) (lawful.finished n) some)
              ∙ lawful.open_or_finished n some;
          jobs = up.jobs;
          named = lawful.named;
          lock = up.lock;
          due = lawful.due;
        }

  module _ (number : ℕ) where
    pub lawful-without_upload : IsLawfulVault counter last (without_upload number vault)
    lawful-without_upload = record {
      created = lawful.created;
      bytes = lawful.bytes;
      archives = lawful.archives;
      held = lawful.held;
      live_or_held = lawful.live_or_held;
      uploads = λ n. if_some-remove nat_cmp_total map.nat_cmp-IsAntisymmetric (IsDrawn counter (IsLawfulUpload last)) vault.uploads number n (lawful.uploads n);
      finished = lawful.finished;
      open_or_finished = λ n some. map.get-remove nat_cmp_total vault.uploads number n ∙ none (eq_by_cmp nat_cmp n number) (map.get vault.uploads n) (lawful.open_or_finished n some);
      jobs = lawful.jobs;
      named = lawful.named;
      lock = lawful.lock;
      due = lawful.due;
    }
      where
        none : (b : Bool) (r : Option Upload) → r ≡ None → cond b None r ≡ None
        none true r e = refl
        none false r e = e

    module _ (upload : Upload) (there : map.get vault.uploads number ≡ Some upload) where
      pub total-without_upload : (w : Weight) → vault_total w (without_upload number vault) + upload_total w upload ≡ vault_total w vault
      total-without_upload w = omega (arith, sum_by-remove nat_cmp_total (upload_total w) map.nat_cmp-IsAntisymmetric vault.uploads number, ap (weight (upload_total w)) there)

      pub total-in_upload : (w : Weight) (f : Upload → Upload) → vault_total w (in_upload number f vault) + upload_total w upload ≡ vault_total w vault + upload_total w (f upload)
      total-in_upload w f = omega (arith, sum_by-changed_at nat_cmp_total (upload_total w) map.nat_cmp-IsAntisymmetric vault.uploads number f upload there)

      -- the upload, as the vault holds it
      pub upload_there : IsDrawn counter (IsLawfulUpload last) number upload
      upload_there = subst (λ r. IfSome r (IsDrawn counter (IsLawfulUpload last) number)) there (lawful.uploads number)

      pub lawful-in_upload : (f : Upload → Upload) → IsLawfulUpload last (f upload) → IsLawfulVault counter last (in_upload number f vault)
      lawful-in_upload f right = record {
        created = lawful.created;
        bytes = lawful.bytes;
        archives = lawful.archives;
        held = lawful.held;
        live_or_held = lawful.live_or_held;
        uploads = λ n. if_some-changed_at nat_cmp_total map.nat_cmp-IsAntisymmetric (IsDrawn counter (IsLawfulUpload last)) vault.uploads number n f
            (λ v e. subst (λ r. IfSome r (λ v. IsDrawn counter (IsLawfulUpload last) number (f v))) (sym there ∙ e) (record { drawn = upload_there.drawn; right = right })) (lawful.uploads n);
        finished = lawful.finished;
        open_or_finished = λ n some. get-changed_at nat_cmp_total f vault.uploads number n ∙ none (eq_by_cmp nat_cmp n number) (map.get vault.uploads n) (lawful.open_or_finished n some);
        jobs = lawful.jobs;
        named = lawful.named;
        lock = lawful.lock;
        due = lawful.due;
      }
        where
          none : (b : Bool) (r : Option Upload) → r ≡ None → cond b (option_map f r) r ≡ None
          none true r e = ap (option_map f) e
          none false r e = e
