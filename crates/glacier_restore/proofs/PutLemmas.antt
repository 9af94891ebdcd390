-- What is put into a lawful account: its totals, and that it is lawful.
use Rattle.std.specs.Prelude.{◌≡◌, ℕ, ◌≤◌, ◌+◌, Bool, true, false, List, length, Option, Some, None, Ok, IfSome, is_none, nat_eq, nat_lt}
use Rattle.std.specs.FinMap as map
use Rattle.std.specs.List.{list_any}
use Rattle.std.proofs.Common.{ap, refl, subst, inl, inr, arith}
use Rattle.std.proofs.lemmas.Bool.{and_parts, eqb-true, cases_lt}
use Rattle.std.proofs.lemmas.Bool.Decides.{nat_tests}
use Rattle.glacier_policy.specs.Policies.{policy_of}
use Rattle.glacier_vault.specs.Lawful.{IsLawful, IsLawfulBody}
use Rattle.glacier_vault.specs.Lengths.{lengths, archive_length, upload_length, part_length, finished_length, job_length, line_length, lock_length}
use Rattle.glacier_vault.specs.Rows.{in_vault}
use Rattle.glacier_vault.specs.Totals.{need, blocks, each_upload, each_job, naming, times_named}
use Rattle.glacier_vault.specs.declared.archive.Archive.{Archive}
use Rattle.glacier_vault.specs.declared.archive.Finished.{Finished}
use Rattle.glacier_vault.specs.declared.archive.Part.{Part}
use Rattle.glacier_vault.specs.declared.archive.Upload.{Upload}
use Rattle.glacier_vault.specs.declared.job.Job.{Job}
use Rattle.glacier_vault.specs.declared.job.Line.{Line}
use Rattle.glacier_vault.specs.declared.lock.Lock.{Lock}
use Rattle.glacier_vault.specs.declared.state.AccountState.{AccountState}
use Rattle.glacier_vault.specs.declared.state.VaultState.{VaultState}
use Rattle.glacier_restore.specs.Fitting.{are_apart, is_past, takes_archive, takes_upload, takes_part, takes_finished, takes_job, takes_line, takes_lock}
use Rattle.glacier_restore.specs.Putting.{where_fits, put_in, put_archive, put_upload, put_part, put_finished, put_job, put_line, put_lock, with_archive, with_upload, in_upload, with_finished, with_job, in_job, with_lock}
use Rattle.glacier_restore.specs.Restoring.{is_named, numbers_of}
use Rattle.glacier_records.specs.declared.kept.Blob.{Blob}
use Rattle.glacier_restore.proofs.GrownLemmas.{NamesNew, GrowsBy, names_none, right_vault, grown, grown_each, lawful-grown}
use Rattle.glacier_restore.proofs.InsideLemmas.{right_with_part, part_grows, right_with_line, line_same, line_longer}
use Rattle.glacier_restore.proofs.NamedLemmas.{neither, not_true, one_if, new_counts, times, apart_once, apart_drawn, listed_is_new}
use Rattle.glacier_restore.proofs.TakenLemmas.{right_with_archive, archive_grows, right_with_upload, upload_grows, right_with_finished, finished_grows, right_with_job, job_grows, right_with_lock, lock_grows}
use Rattle.glacier_restore.proofs.VaultLemmas.{le_of, lt_of, none_there}

-- what the tests that an item passed tell of its vault
module _ (a : AccountState) (number : ℕ) (vault : VaultState) where
  pub before_jobs : (archive : Archive) → takes_archive a number archive vault ≡ true → map.len vault.jobs ≡ 0
  before_jobs archive takes = eqb-true _ _ (and_parts _ _ (and_parts _ _ takes).0).1

  pub new_finished : (finished : Finished) → takes_finished a number finished vault ≡ true → map.get vault.finished number ≡ None
  new_finished finished takes = none_there _ (neither _ _ (not_true _ (and_parts _ _ takes).1)).1

  pub new_job : (job : Job) → takes_job a number job vault ≡ true → map.get vault.jobs number ≡ None
  new_job job takes = none_there _ (not_true _ (and_parts _ _ takes).1)

pub no_lock : (a : AccountState) (vault : VaultState) (lock : Lock) → takes_lock a lock vault ≡ true → is_none vault.lock ≡ true
no_lock a vault lock takes = (and_parts (is_past a lock.created lock.number) (is_none vault.lock) takes).1

module _ (a : AccountState) (lawful : IsLawful a) where
  -- what is put into a vault leaves a lawful account where each vault that takes it does
  lawful-put_in : (name : List ℕ) (takes : VaultState → Bool) (f : VaultState → VaultState)
      → ((vault : VaultState) → map.get a.vaults name ≡ Some vault → takes vault ≡ true → IsLawful (in_vault a a.last name f))
      → IfSome (put_in a name takes f) IsLawful
  lawful-put_in name takes f right = at (map.get a.vaults name) right
    where
      fits : (vault : VaultState) (b : Bool) → (b ≡ true → IsLawful (in_vault a a.last name f)) → IfSome (where_fits b (in_vault a a.last name f)) IsLawful
      fits vault true right = right refl
      fits vault false right = tt

      at : (r : Option VaultState) → ((vault : VaultState) → r ≡ Some vault → takes vault ≡ true → IsLawful (in_vault a a.last name f))
          → IfSome (elim r [ None ↦ None | Some vault ↦ where_fits (takes vault) (in_vault a a.last name f) ]) IsLawful
      at None right = tt
      at (Some vault) right = fits vault (takes vault) (right vault refl)

  -- what a vault that takes something in adds to the totals
  module _ (name : List ℕ) (vault : VaultState) (there : map.get a.vaults name ≡ Some vault) (number : ℕ) where
    pub archive_grown : (held : Bool) (archive : Archive) → IsLawfulBody archive.size archive.leaves archive.tree → takes_archive a number archive vault ≡ true
        → GrowsBy a name (with_archive held number archive) (need archive.size) 0 0 (archive_length (length name) archive)
    archive_grown held archive body takes = grown a lawful name vault there (with_archive held number archive) (λ w. w.archive archive) (archive_grows a vault (right_vault a lawful name vault there) number archive body takes held)

    pub upload_grown : (upload : Upload) → upload.parts ≡ map.empty → takes_upload a number upload vault ≡ true → GrowsBy a name (with_upload number upload) 0 1 0 (upload_length (length name) upload)
    upload_grown upload bare takes = grown a lawful name vault there (with_upload number upload) (λ w. w.upload upload) (upload_grows a vault (right_vault a lawful name vault there) number upload bare takes)

    pub part_grown : (upload : Upload) → map.get vault.uploads number ≡ Some upload → (index : ℕ) (part : Part) → takes_part a index part upload ≡ true
        → GrowsBy a name (in_upload number index part) (need part.size) 0 0 (part_length (length name) part)
    part_grown upload is index part takes =
        let right = right_vault a lawful name vault there in
        grown_each a lawful name vault there (in_upload number index part) (need part.size) 0 0 (part_length (length name) part)
        (part_grows a vault right number upload is index part takes blocks refl) (part_grows a vault right number upload is index part takes each_upload refl)
        (part_grows a vault right number upload is index part takes each_job refl) (part_grows a vault right number upload is index part takes (lengths (length name)) refl)

    pub finished_grown : (finished : Finished) → takes_finished a number finished vault ≡ true → GrowsBy a name (with_finished number finished) 0 0 0 (finished_length (length name))
    finished_grown finished takes = grown a lawful name vault there (with_finished number finished) (λ w. w.finished finished) (finished_grows a vault (right_vault a lawful name vault there) number finished takes)

    pub job_grown : (job : Job) → takes_job a number job vault ≡ true → GrowsBy a name (with_job number job) 0 0 1 (job_length (length name) job)
    job_grown job takes = grown a lawful name vault there (with_job number job) (λ w. w.job job) (job_grows a vault (right_vault a lawful name vault there) number job takes)

    pub line_grown : (job : Job) → map.get vault.jobs number ≡ Some job → (line : Line) → takes_line line job.work job.stage ≡ true
        → GrowsBy a name (in_job number line) 0 0 0 (line_length (length name) line)
    line_grown job is line takes =
        let right = right_vault a lawful name vault there in
        grown_each a lawful name vault there (in_job number line) 0 0 0 (line_length (length name) line)
        (line_same a vault right number job is line blocks refl) (line_same a vault right number job is line each_upload refl)
        (line_same a vault right number job is line each_job refl) (line_longer a vault right number job is line (length name) takes)

  pub lock_grown : (name : List ℕ) (vault : VaultState) → map.get a.vaults name ≡ Some vault → (lock : Lock) → is_none vault.lock ≡ true → GrowsBy a name (with_lock lock) 0 0 0 (lock_length (length name) lock)
  lock_grown name vault there lock free = grown a lawful name vault there (with_lock lock) (λ w. w.lock lock) (lock_grows a vault (right_vault a lawful name vault there) lock free)

  module _ (name : List ℕ) where
    pub lawful-put_upload : (number : ℕ) (upload : Upload) → upload.parts ≡ map.empty → IfSome (put_upload a name number upload) IsLawful
    lawful-put_upload number upload bare = lawful-put_in name _ _ (λ vault there takes.
        let right = right_vault a lawful name vault there in
        lawful-grown a lawful name vault there (with_upload number upload) (λ w. w.upload upload) (λ blob. upload_grows a vault right number upload bare takes (naming blob))
        (right_with_upload a vault right number upload bare takes) (names_none a lawful (λ w. w.upload upload) (λ blob. refl)))

    pub lawful-put_finished : (number : ℕ) (finished : Finished) → IfSome (put_finished a name number finished) IsLawful
    lawful-put_finished number finished = lawful-put_in name _ _ (λ vault there takes.
        let right = right_vault a lawful name vault there in
        lawful-grown a lawful name vault there (with_finished number finished) (λ w. w.finished finished) (λ blob. finished_grows a vault right number finished takes (naming blob))
        (right_with_finished a vault right number finished takes) (names_none a lawful (λ w. w.finished finished) (λ blob. refl)))

    pub lawful-put_job : (number : ℕ) (job : Job) → IfSome (put_job a name number job) IsLawful
    lawful-put_job number job = lawful-put_in name _ _ (λ vault there takes.
        let right = right_vault a lawful name vault there in
        lawful-grown a lawful name vault there (with_job number job) (λ w. w.job job) (λ blob. job_grows a vault right number job takes (naming blob))
        (right_with_job a vault right number job takes) (names_none a lawful (λ w. w.job job) (λ blob. refl)))

    pub lawful-put_lock : (lock : Lock) → policy_of lock.text ≡ Ok lock.policy → IfSome (put_lock a name lock) IsLawful
    lawful-put_lock lock reads = lawful-put_in name _ _ (λ vault there takes.
        let right = right_vault a lawful name vault there in
        let past = and_parts _ _ (and_parts _ _ takes).0 in
        lawful-grown a lawful name vault there (with_lock lock) (λ w. w.lock lock) (λ blob. lock_grows a vault right lock (no_lock a vault lock takes) (naming blob))
        (right_with_lock a vault right lock (record { number = lt_of _ _ past.0; created = le_of _ _ past.1; policy = reads })) (names_none a lawful (λ w. w.lock lock) (λ blob. refl)))

    pub lawful-put_line : (number : ℕ) (line : Line) → IfSome (put_line a name number line) IsLawful
    lawful-put_line number line = lawful-put_in name _ _ (λ vault there takes. at vault there (map.get vault.jobs number) refl takes)
      where
        at : (vault : VaultState) → map.get a.vaults name ≡ Some vault → (r : Option Job) → map.get vault.jobs number ≡ r
            → elim r as (λ _. Bool) [ None ↦ false | Some job ↦ takes_line line job.work job.stage ] ≡ true → IsLawful (in_vault a a.last name (in_job number line))
        at vault there None is takes = cc
        at vault there (Some job) is takes =
            let right = right_vault a lawful name vault there in
            lawful-grown a lawful name vault there (in_job number line) (λ w. 0) (λ blob. line_same a vault right number job is line (naming blob) refl)
            (right_with_line a vault right number job is line takes) (names_none a lawful (λ w. 0) (λ blob. refl))

    -- a part with a new blob
    names_part : (part : Part) → is_named a part.blob ≡ false → nat_lt part.blob a.counter ≡ true → (blob : ℕ) → NamesNew a.counter a.vaults (λ w. w.part part) blob
    names_part part new low blob = record { once = at (nat_eq part.blob blob) refl; drawn = λ high. other blob high }
      where
        other : (k : ℕ) → a.counter ≤ k → one_if (nat_eq part.blob k) ≡ 0
        other k high = grind (arith, nat_tests)

        at : (b : Bool) → nat_eq part.blob blob ≡ b → times_named blob a.vaults + one_if (nat_eq part.blob blob) ≤ 1
        at true t =
            let none : times_named blob a.vaults ≡ 0 = new_counts blob a (subst (λ n. is_named a n ≡ false) (eqb-true part.blob blob t) new) in
            omega (arith, none, ap one_if t)
        at false t = omega (arith, (lawful.blobs blob).once, ap one_if t)

    pub lawful-put_part : (number index : ℕ) (part : Part) → IsLawfulBody part.size part.leaves part.tree → is_named a part.blob ≡ false → IfSome (put_part a name number index part) IsLawful
    lawful-put_part number index part body new = lawful-put_in name _ _ (λ vault there takes. at vault there (map.get vault.uploads number) refl takes)
      where
        at : (vault : VaultState) → map.get a.vaults name ≡ Some vault → (r : Option Upload) → map.get vault.uploads number ≡ r
            → elim r as (λ _. Bool) [ None ↦ false | Some upload ↦ takes_part a index part upload ] ≡ true → IsLawful (in_vault a a.last name (in_upload number index part))
        at vault there None is takes = cc
        at vault there (Some upload) is takes =
            let right = right_vault a lawful name vault there in
            lawful-grown a lawful name vault there (in_upload number index part) (λ w. w.part part) (λ blob. part_grows a vault right number upload is index part takes (naming blob) refl)
            (right_with_part a vault right number upload is index part takes body) (names_part part new (and_parts _ _ (and_parts _ _ takes).0).1)

    -- an archive of new blobs
    names_archive : (number : ℕ) (vault : VaultState) (archive : Archive) (blobs : List Blob) → archive.blobs ≡ numbers_of blobs → list_any (λ (b : Blob). is_named a b.number) blobs ≡ false
        → takes_archive a number archive vault ≡ true → (blob : ℕ) → NamesNew a.counter a.vaults (λ w. w.archive archive) blob
    names_archive number vault archive blobs is new takes blob =
        let apart : are_apart a.counter archive.blobs ≡ true = (and_parts _ _ (and_parts _ _ (and_parts _ _ takes).0).0).1 in
        record {
          once = elim (cases_lt (times blob archive.blobs) 1) [
            | inl none ↦ omega (arith, none, (lawful.blobs blob).once)
            | inr some ↦ (
                let free : times_named blob a.vaults ≡ 0 = new_counts blob a (listed_is_new a blob blobs new (subst (λ ns. 1 ≤ times blob ns) is some)) in
                omega (arith, free, apart_once blob a.counter archive.blobs apart))
          ];
          drawn = λ high. apart_drawn blob a.counter archive.blobs apart high;
        }

    pub lawful-put_archive : (held : Bool) (number : ℕ) (archive : Archive) (blobs : List Blob) → IsLawfulBody archive.size archive.leaves archive.tree → archive.blobs ≡ numbers_of blobs
        → list_any (λ (b : Blob). is_named a b.number) blobs ≡ false → IfSome (put_archive a name held number archive) IsLawful
    lawful-put_archive held number archive blobs body is new = lawful-put_in name _ _ (λ vault there takes.
        let right = right_vault a lawful name vault there in
        lawful-grown a lawful name vault there (with_archive held number archive) (λ w. w.archive archive) (λ blob. archive_grows a vault right number archive body takes held (naming blob))
        (right_with_archive a vault right number archive body takes held) (names_archive number vault archive blobs is new takes))
