-- What a new archive of one new blob leaves.
use Rattle.std.specs.Prelude.{◌≡◌, ℕ, ◌≤◌, ◌+◌, List, [], ◌∷◌, length, Some, None, nat_eq, count_by}
use Rattle.std.specs.Cmp.{nat_cmp_total}
use Rattle.std.specs.FinMap as map
use Rattle.std.proofs.Common.{◌∙◌, ap, sym, refl, subst, arith}
use Rattle.glacier_base.specs.Maps.{changed_at}
use Rattle.glacier_base.proofs.Sums.{weight, sum_by-insert}
use Rattle.glacier_vault.specs.Due.{due_in}
use Rattle.glacier_vault.specs.Lawful.{IsLawful, IsLawfulVault, IsLawfulArchive}
use Rattle.glacier_vault.specs.Lengths.{lengths, archive_length, snapshot_length}
use Rattle.glacier_vault.specs.Rows.{in_vault, drawn}
use Rattle.glacier_vault.specs.Totals.{Archives, Weight, total, blocks, each_upload, each_job, need, naming, used_in, uploads_in, jobs_in, bytes_in}
use Rattle.glacier_vault.specs.declared.archive.Archive.{Archive}
use Rattle.glacier_vault.specs.declared.state.AccountState.{AccountState}
use Rattle.glacier_vault.specs.declared.state.VaultState.{VaultState}
use Rattle.glacier_vault.proofs.Fresh.{fresh, total-new_archive, lawful-new_archive}
use Rattle.glacier_vault.proofs.DueLemmas.{due_in-same}
use Rattle.glacier_vault.proofs.KeepsLawful.{lawful-changed_at, lawful_there}
use Rattle.glacier_vault.proofs.Later.{later_vault}
use Rattle.glacier_vault.proofs.LengthLemmas.{length-changed_at}
use Rattle.glacier_vault.proofs.TotalsLemmas.{total-changed_at}
use Rattle.glacier_upload.specs.Single.{with_archive}
use Rattle.glacier_upload.proofs.SameText.{hit, count-alone, hit_none, hit-le-one}

-- what a new archive adds to the bytes of archives
pub bytes-insert : (archives : Archives) (number : ℕ) (archive : Archive) → map.get archives number ≡ None → bytes_in (map.insert archives number archive) ≡ bytes_in archives + archive.size
bytes-insert archives number archive none = let size = λ (a : Archive). a.size in omega (arith, sum_by-insert nat_cmp_total size archives number archive, ap (weight size) none)

module _ (a : AccountState) (m : ℕ) (le : a.last ≤ m) (lawful : IsLawful a) (name : List ℕ) (vault : VaultState) (there : map.get a.vaults name ≡ Some vault) where
  pub right_vault : IsLawfulVault a.counter a.last vault
  right_vault = lawful_there a a.counter a.last (omega arith) (omega arith) lawful name vault there

  pub later : IsLawfulVault a.counter m vault
  later = later_vault a.counter a.counter (omega arith) a.last m le vault right_vault

  -- the next number isn't that of an archive
  pub next_archive : map.get vault.archives a.counter ≡ None
  next_archive = fresh (λ _. IsLawfulArchive a.last) a.counter vault.archives right_vault.archives

  module _ (archive : Archive) where
    -- what the archive adds to each total
    pub total-with_archive : (w : Weight) → total w (changed_at (with_archive a.counter archive) a.vaults name) ≡ total w a.vaults + w.archive archive
    total-with_archive w = omega (arith, total-changed_at w a.vaults name vault there (with_archive a.counter archive), total-new_archive a.counter a.last vault right_vault archive w)

    pub used-with_archive : a.used + need archive.size ≡ used_in (changed_at (with_archive a.counter archive) a.vaults name)
    used-with_archive = omega (arith, lawful.used, total-with_archive blocks)

    pub uploads-with_archive : a.uploads ≡ uploads_in (changed_at (with_archive a.counter archive) a.vaults name)
    uploads-with_archive = omega (arith, lawful.uploads, total-with_archive each_upload)

    pub jobs-with_archive : a.jobs ≡ jobs_in (changed_at (with_archive a.counter archive) a.vaults name)
    jobs-with_archive = omega (arith, lawful.jobs, total-with_archive each_job)

    pub due-with_archive : a.due ≡ due_in (changed_at (with_archive a.counter archive) a.vaults name)
    due-with_archive = lawful.due ∙ sym (due_in-same a.vaults name vault there (with_archive a.counter archive) refl)

    pub length-with_archive : (n : ℕ) → n ≡ length name → (long : ℕ) → long ≡ a.length + archive_length n archive → long ≡ snapshot_length (changed_at (with_archive a.counter archive) a.vaults name)
    length-with_archive n is long e =
        let here = subst (λ n. long ≡ a.length + archive_length n archive) is e in
        omega (arith, here, lawful.length, length-changed_at a.vaults name vault there (with_archive a.counter archive), total-new_archive a.counter a.last vault right_vault archive (lengths (length name)))

    pub lawful-with_archive : IsLawfulArchive m archive → archive.blobs ≡ a.counter ∷ [] → IsLawful (in_vault (drawn a) m name (with_archive a.counter archive))
    lawful-with_archive right blob_is = lawful-changed_at a (a.counter + 1) m (omega arith) le lawful name vault there (with_archive a.counter archive)
        (lawful-new_archive a.counter m vault later archive right)
        (record {
          old = λ blob side. omega (arith, total-new_archive a.counter a.last vault right_vault archive (naming blob), named blob, hit_none a.counter blob side);
          new = λ blob. omega (arith, total-new_archive a.counter a.last vault right_vault archive (naming blob), named blob, hit-le-one a.counter blob);
        })
      where
        named : (blob : ℕ) → count_by (λ n. nat_eq n blob) archive.blobs ≡ hit a.counter blob
        named blob = ap (λ blobs. count_by (λ n. nat_eq n blob) blobs) blob_is ∙ count-alone a.counter blob
