-- What a completion leaves.
use Rattle.std.specs.Prelude.{◌≡◌, ℕ, ◌≤◌, ◌+◌, ◌-◌, Bool, true, false, cond, List, [], ◌∷◌, length, Option, Some, None, IsSome, nat_eq, sum_by, count_by, map as each}
use Rattle.std.specs.Cmp.{nat_cmp_total}
use Rattle.std.specs.FinMap as map
use Rattle.std.specs.Ordering.{nat_cmp, eq_by_cmp}
use Rattle.std.proofs.Common.{◌∙◌, ap, sym, refl, subst, arith}
use Rattle.std.proofs.lemmas.List.{length-map}
use Rattle.std.proofs.lemmas.List.Sums.{sum_by-cons}
use Rattle.glacier_base.specs.Maps.{changed_at}
use Rattle.glacier_base.proofs.LookUps.{if_some-insert}
use Rattle.glacier_base.proofs.Sums.{weight, sum_by-insert}
use Rattle.glacier_vault.specs.Due.{sooner, finished_due, due_in}
use Rattle.glacier_vault.specs.Lawful.{IsLawful, IsLawfulVault, IsLawfulArchive, IsLawfulUpload, IsDrawn}
use Rattle.glacier_vault.specs.Lengths.{lengths, archive_length, finished_length, snapshot_length}
use Rattle.glacier_vault.specs.Rows.{in_vault, drawn}
use Rattle.glacier_vault.specs.Totals.{Weight, vault_total, total, upload_total, blocks, each_upload, each_job, naming, used_in, uploads_in, jobs_in}
use Rattle.glacier_vault.specs.declared.archive.Archive.{Archive}
use Rattle.glacier_vault.specs.declared.archive.Finished.{Finished}
use Rattle.glacier_vault.specs.declared.archive.Part.{Part}
use Rattle.glacier_vault.specs.declared.archive.Upload.{Upload}
use Rattle.glacier_vault.specs.declared.state.AccountState.{AccountState}
use Rattle.glacier_vault.specs.declared.state.VaultState.{VaultState}
use Rattle.glacier_vault.proofs.DueLemmas.{due_in-sooner}
use Rattle.glacier_vault.proofs.Fresh.{total-new_archive, lawful-new_archive}
use Rattle.glacier_vault.proofs.KeepsLawful.{lawful-changed_at, lawful_there}
use Rattle.glacier_vault.proofs.Later.{later_vault}
use Rattle.glacier_vault.proofs.LengthLemmas.{length-changed_at}
use Rattle.glacier_vault.proofs.TotalsLemmas.{sum_by-none, total-changed_at, total-remove}
use Rattle.glacier_upload.specs.Completion.{covered, has_gap, whole_archive, finished_as, with_completed, open_length, IsWhole}
use Rattle.glacier_upload.specs.Uploads.{part_blobs, without_upload}
use Rattle.glacier_upload.proofs.CoverLemmas.{blocks_covered, leaves_covered, some_parts}
use Rattle.glacier_upload.proofs.CompletionDue.{not_finished, content_due-completed, vault_due-completed}
use Rattle.glacier_upload.proofs.UploadMaps.{lawful-without_upload, total-without_upload, upload_there}

-- how often a blob stands among those of parts
pub count-part_blobs : (blob : ℕ) (parts : List Part) → count_by (λ n. nat_eq n blob) (each (λ (part : Part). part.blob) parts) ≡ sum_by (naming blob).part parts
count-part_blobs blob [] = refl
count-part_blobs blob (part ∷ parts) =
    let hit = λ (n : ℕ). cond {A = ℕ} (nat_eq n blob) 1 0 in
    let goal : sum_by hit (part.blob ∷ each (λ (part : Part). part.blob) parts) ≡ sum_by (naming blob).part (part ∷ parts) =
    omega (arith, count-part_blobs blob parts, sum_by-cons hit part.blob (each (λ (part : Part). part.blob) parts), sum_by-cons (naming blob).part part parts) in
    goal

-- a vault in which an open upload became an archive at the moment m
module _ (counter m : ℕ) (vault : VaultState) (lawful : IsLawfulVault counter m vault) (number : ℕ) (upload : Upload) (is_open : map.get vault.uploads number ≡ Some upload)
    (archive : Archive) (now : archive.created ≤ m) where
  abbrev closed : VaultState
  closed = without_upload number vault

  abbrev finished : Finished
  finished = finished_as counter archive

  abbrev answered : VaultState
  answered = record closed { finished = map.insert vault.finished number finished; due = sooner vault.due (finished_due finished) }

  right_closed : IsLawfulVault counter m closed
  right_closed = lawful-without_upload counter m vault lawful number

  right_answered : IsLawfulVault counter m answered
  right_answered = record {
    created = lawful.created;
    bytes = lawful.bytes;
    archives = lawful.archives;
    held = lawful.held;
    live_or_held = lawful.live_or_held;
    uploads = right_closed.uploads;
    finished = λ n. if_some-insert nat_cmp_total map.nat_cmp-IsAntisymmetric (IsDrawn counter (λ (f : Finished). f.at ≤ m)) vault.finished number n finished
        (record { drawn = (upload_there counter m vault lawful number upload is_open).drawn; right = now }) (lawful.finished n);
    open_or_finished = λ n some. map.get-remove nat_cmp_total vault.uploads number n
        ∙ gone n (eq_by_cmp nat_cmp n number) refl (subst IsSome (map.get-insert nat_cmp_total vault.finished number finished n) some);
    jobs = lawful.jobs;
    named = lawful.named;
    lock = lawful.lock;
    due = content_due-completed number counter archive vault counter m lawful upload is_open;
  }
    where
      gone : (n : ℕ) (b : Bool) → eq_by_cmp nat_cmp n number ≡ b → IsSome (cond b (Some finished) (map.get vault.finished n)) → cond b None (map.get vault.uploads n) ≡ None
      gone n true t s = refl
      gone n false t s = lawful.open_or_finished n s

  pub vault-completed : (w : Weight) → vault_total w (with_completed number counter archive vault) + upload_total w upload ≡ vault_total w vault + w.archive archive + w.finished finished
  vault-completed w =
      let none = not_finished counter m vault lawful number upload is_open in
      omega (
        arith,
        total-new_archive counter m answered right_answered archive w,
        total-without_upload counter m vault lawful number upload is_open w,
        sum_by-insert nat_cmp_total w.finished vault.finished number finished,
        ap (weight w.finished) none,
      )

  pub lawful_vault-completed : IsLawfulArchive m archive → IsLawfulVault (counter + 1) m (with_completed number counter archive vault)
  lawful_vault-completed right = lawful-new_archive counter m answered right_answered archive right

module _ (a : AccountState) (lawful : IsLawful a) (name : List ℕ) (vault : VaultState) (there : map.get a.vaults name ≡ Some vault)
    (number : ℕ) (upload : Upload) (is_open : map.get vault.uploads number ≡ Some upload) where
  right_vault : IsLawfulVault a.counter a.last vault
  right_vault = lawful_there a a.counter a.last (omega arith) (omega arith) lawful name vault there

  pub right_upload : IsLawfulUpload a.last upload
  right_upload = (upload_there a.counter a.last vault right_vault number upload is_open).right

  pub upload_counted : 1 ≤ a.uploads
  upload_counted = omega (arith, lawful.uploads, total-remove each_upload a.vaults name vault there, total-without_upload a.counter a.last vault right_vault number upload is_open each_upload)

  module _ (m : ℕ) where
    abbrev completed : VaultState → VaultState
    completed = with_completed number a.counter (whole_archive m upload)

    abbrev finished_then : Finished
    finished_then = finished_as a.counter (whole_archive m upload)

    balance : (w : Weight) → vault_total w (completed vault) + upload_total w upload ≡ vault_total w vault + w.archive (whole_archive m upload) + w.finished finished_then
    balance w = vault-completed a.counter (a.last + m) vault (later_vault a.counter a.counter (omega arith) a.last (a.last + m) (omega arith) vault right_vault)
        number upload is_open (whole_archive m upload) (omega arith) w

    -- what a completion adds to each total, and takes from it
    pub total-completed : (w : Weight) → total w (changed_at completed a.vaults name) + upload_total w upload ≡ total w a.vaults + w.archive (whole_archive m upload) + w.finished finished_then
    total-completed w = omega (arith, balance w, total-changed_at w a.vaults name vault there completed, total-remove w a.vaults name vault there)

    pub uploads-completed : a.uploads - 1 ≡ uploads_in (changed_at completed a.vaults name)
    uploads-completed = omega (arith, lawful.uploads, total-completed each_upload, sum_by-none (map.values upload.parts))

    pub jobs-completed : a.jobs ≡ jobs_in (changed_at completed a.vaults name)
    jobs-completed = omega (arith, lawful.jobs, total-completed each_job, sum_by-none (map.values upload.parts))

    pub length-completed : snapshot_length (changed_at completed a.vaults name) + upload_total (lengths (length name)) upload ≡ a.length + archive_length (length name) (whole_archive m upload) + finished_length (length name)
    length-completed = omega (arith, lawful.length, balance (lengths (length name)), length-changed_at a.vaults name vault there completed)

    pub due-completed : sooner a.due (finished_due (finished_as a.counter (whole_archive m upload))) ≡ due_in (changed_at completed a.vaults name)
    due-completed = ap (λ due. sooner due (finished_due (finished_as a.counter (whole_archive m upload)))) lawful.due
        ∙ sym (due_in-sooner a.vaults name vault there completed (finished_due (finished_as a.counter (whole_archive m upload))) (vault_due-completed number a.counter (whole_archive m upload) vault))

    -- each blob is named as often as before
    same_names : (blob : ℕ) → vault_total (naming blob) (completed vault) ≡ vault_total (naming blob) vault
    same_names blob = omega (arith, balance (naming blob), count-part_blobs blob (map.values upload.parts))

    module _ (no_gap : has_gap upload ≡ false) where
      pub used-completed : a.used ≡ used_in (changed_at completed a.vaults name)
      used-completed = omega (arith, lawful.used, total-completed blocks, blocks_covered a.last upload right_upload no_gap)

      module _ (some : 1 ≤ covered upload) (le : a.last ≤ m) where
        part_there : 1 ≤ length (part_blobs upload)
        part_there = let some_part = some_parts upload.part_size (map.entries upload.parts) some in omega (arith, some_part, length-map (map.values upload.parts) (λ (part : Part). part.blob))

        right_archive : IsLawfulArchive m (whole_archive m upload)
        right_archive = record { body = record { some = some; count = leaves_covered a.last upload right_upload no_gap; root = refl }; created = omega arith; blob = part_there }

        later : IsLawfulVault a.counter m vault
        later = later_vault a.counter a.counter (omega arith) a.last m le vault right_vault

        pub lawful-completed : IsLawful (in_vault (drawn a) m name completed)
        lawful-completed = lawful-changed_at a (a.counter + 1) m (omega arith) le lawful name vault there completed
            (lawful_vault-completed a.counter m vault later number upload is_open (whole_archive m upload) (omega arith) right_archive)
            (record { old = λ blob _. omega (arith, same_names blob); new = λ blob. omega (arith, same_names blob) })

-- the account in which an open upload became an archive that it can become
module _ (a : AccountState) (m : ℕ) (le : a.last ≤ m) (lawful : IsLawful a) (name : List ℕ) (number : ℕ) (archive : Archive) (fits : IsWhole a m name number archive)
    (vault : VaultState) (there : map.get a.vaults name ≡ Some vault) where
  -- the upload is there
  opened_there : map.get vault.uploads number ≡ Some fits.upload
  opened_there = ap (λ r. elim r as (λ _. Option Upload) [ None ↦ None | Some vault ↦ map.get vault.uploads number ]) (sym there) ∙ fits.there

  -- what holds of the archive that its parts make up holds of this one
  of_whole : (P : Archive → Type 0) → P (whole_archive m fits.upload) → P archive
  of_whole P h = subst P (sym fits.is) h

  pub counted : 1 ≤ a.uploads
  counted = upload_counted a lawful name vault there number fits.upload opened_there

  pub used-finished : a.used ≡ used_in (changed_at (with_completed number a.counter archive) a.vaults name)
  used-finished = of_whole (λ x. a.used ≡ used_in (changed_at (with_completed number a.counter x) a.vaults name)) (used-completed a lawful name vault there number fits.upload opened_there m fits.no_gap)

  pub uploads-finished : a.uploads - 1 ≡ uploads_in (changed_at (with_completed number a.counter archive) a.vaults name)
  uploads-finished = of_whole (λ x. a.uploads - 1 ≡ uploads_in (changed_at (with_completed number a.counter x) a.vaults name)) (uploads-completed a lawful name vault there number fits.upload opened_there m)

  pub jobs-finished : a.jobs ≡ jobs_in (changed_at (with_completed number a.counter archive) a.vaults name)
  jobs-finished = of_whole (λ x. a.jobs ≡ jobs_in (changed_at (with_completed number a.counter x) a.vaults name)) (jobs-completed a lawful name vault there number fits.upload opened_there m)

  length_balance : snapshot_length (changed_at (with_completed number a.counter archive) a.vaults name) + upload_total (lengths (length name)) fits.upload ≡ a.length + archive_length (length name) archive + finished_length (length name)
  length_balance = of_whole (λ x. snapshot_length (changed_at (with_completed number a.counter x) a.vaults name) + upload_total (lengths (length name)) fits.upload ≡ a.length + archive_length (length name) x + finished_length (length name))
      (length-completed a lawful name vault there number fits.upload opened_there m)

  -- the upload is there, and how long it is
  pub open_there : IsSome (map.get vault.uploads number)
  open_there = subst IsSome (sym opened_there) refl

  open_is : (n : ℕ) → open_length n number vault ≡ upload_total (lengths n) fits.upload
  open_is n = ap (λ r. elim r as (λ _. ℕ) [ None ↦ 0 | Some upload ↦ upload_total (lengths n) upload ]) opened_there

  module _ (n : ℕ) (is : n ≡ length name) where
    pub length_open : open_length n number vault ≤ a.length + archive_length n archive + finished_length n
    length_open = subst (λ n. open_length n number vault ≤ a.length + archive_length n archive + finished_length n) (sym is) (omega (arith, length_balance, open_is (length name)))

    pub length-finished : (left : ℕ) → left + open_length n number vault ≡ a.length + archive_length n archive + finished_length n → left ≡ snapshot_length (changed_at (with_completed number a.counter archive) a.vaults name)
    length-finished left e =
        let here = subst (λ n. left + open_length n number vault ≡ a.length + archive_length n archive + finished_length n) is e in
        omega (arith, here, length_balance, open_is (length name))

  pub due-finished : sooner a.due (finished_due (finished_as a.counter archive)) ≡ due_in (changed_at (with_completed number a.counter archive) a.vaults name)
  due-finished = of_whole (λ x. sooner a.due (finished_due (finished_as a.counter x)) ≡ due_in (changed_at (with_completed number a.counter x) a.vaults name)) (due-completed a lawful name vault there number fits.upload opened_there m)

  pub lawful-finished : IsLawful (in_vault (drawn a) m name (with_completed number a.counter archive))
  lawful-finished = of_whole (λ x. IsLawful (in_vault (drawn a) m name (with_completed number a.counter x))) (lawful-completed a lawful name vault there number fits.upload opened_there m fits.no_gap fits.some le)
