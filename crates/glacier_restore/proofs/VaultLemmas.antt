-- A lawful vault with other things in it.
use Rattle.std.specs.Prelude.{◌≡◌, ℕ, ◌<◌, ◌≤◌, ◌+◌, Bool, true, false, cond, List, length, Option, Some, None, IfSome, IsSome, is_some, nat_eq, nat_lt, nat_le}
use Rattle.std.specs.Cmp.{nat_cmp_total}
use Rattle.std.specs.FinMap as map
use Rattle.std.specs.Ordering.{nat_cmp, eq_by_cmp}
use Rattle.std.proofs.Common.{◌∙◌, ap, sym, refl, subst, arith}
use Rattle.std.proofs.lemmas.Bool.{and_parts, eqb-true}
use Rattle.std.proofs.lemmas.Bool.Decides.{nat_tests}
use Rattle.glacier_base.proofs.LookUps.{if_some-empty}
use Rattle.glacier_base.proofs.Sorted.{tied}
use Rattle.glacier_base.proofs.Sums.{weight, sum_by-insert}
use Rattle.glacier_treehash.specs.Roots.{root_of_digests}
use Rattle.glacier_vault.specs.Due.{content_due}
use Rattle.glacier_vault.specs.Lawful.{IsLawfulBody, IsLawfulArchive, IsLawfulUpload, IsLawfulJob, IsLawfulVault, IsDrawn}
use Rattle.glacier_vault.specs.Rows.{with_archives, with_jobs}
use Rattle.glacier_vault.specs.Totals.{Archives, need, bytes_in}
use Rattle.glacier_vault.specs.declared.archive.Archive.{Archive}
use Rattle.glacier_vault.specs.declared.archive.Upload.{Upload}
use Rattle.glacier_vault.specs.declared.job.Job.{Job}
use Rattle.glacier_vault.specs.declared.state.AccountState.{AccountState}
use Rattle.glacier_vault.specs.declared.state.VaultState.{VaultState}
use Rattle.glacier_restore.specs.Fitting.{is_body}

pub le_of : (n m : ℕ) → nat_le n m ≡ true → n ≤ m
le_of n m t = grind (arith, nat_tests)

pub lt_of : (n m : ℕ) → nat_lt n m ≡ true → n < m
lt_of n m t = grind (arith, nat_tests)

pub none_there : {X : Type 0} (r : Option X) → is_some r ≡ false → r ≡ None
none_there None e = refl
none_there (Some x) e = cc

pub right_body : (size : ℕ) (leaves : List (List ℕ)) → is_body size leaves ≡ true → IsLawfulBody size leaves (root_of_digests leaves)
right_body size leaves e =
    let parts = and_parts (nat_le 1 size) (nat_eq (length leaves) (need size)) e in
    record { some = le_of 1 size parts.0; count = eqb-true (length leaves) (need size) parts.1; root = refl }

-- what a new archive adds to the bytes of archives
pub bytes-insert : (archives : Archives) (number : ℕ) (archive : Archive) → map.get archives number ≡ None → bytes_in (map.insert archives number archive) ≡ bytes_in archives + archive.size
bytes-insert archives number archive none = let size = λ (a : Archive). a.size in omega (arith, sum_by-insert nat_cmp_total size archives number archive, ap (weight size) none)

-- a number that a map doesn't have is none of those that it has
apart : {X : Type 0} (m : map.FinMap nat_cmp X) (number n : ℕ) → map.get m number ≡ None → IsSome (map.get m n) → eq_by_cmp nat_cmp n number ≡ false
apart {X = X} m number n none some = at (eq_by_cmp nat_cmp n number) refl
  where
    at : (b : Bool) → eq_by_cmp nat_cmp n number ≡ b → b ≡ false
    at true t =
        let same : n ≡ number = map.nat_cmp-IsAntisymmetric n number (tied _ t) in
        let is : is_some (map.get m n) ≡ true = some in
        let not_there : is_some (map.get m n) ≡ false = ap (λ r. is_some r) (ap (map.get m) same ∙ none) in
        absurd (let both : true ≡ false = sym is ∙ not_there in cc)
    at false t = refl

-- what is put at a number that another map doesn't have isn't in that one
pub stays_apart : {X Y : Type 0} (m : map.FinMap nat_cmp X) (other : map.FinMap nat_cmp Y) (number : ℕ) (x : X) → map.get other number ≡ None
    → ((n : ℕ) → IsSome (map.get other n) → map.get m n ≡ None) → (n : ℕ) → IsSome (map.get other n) → map.get (map.insert m number x) n ≡ None
stays_apart m other number x none before n some =
    map.get-insert nat_cmp_total m number x n
    ∙ ap (λ b. cond b (Some x) (map.get m n)) (apart other number n none some)
    ∙ before n some

-- the same, the other way round
pub comes_apart : {X Y : Type 0} (m : map.FinMap nat_cmp X) (other : map.FinMap nat_cmp Y) (number : ℕ) (x : X) → map.get other number ≡ None
    → ((n : ℕ) → IsSome (map.get m n) → map.get other n ≡ None) → (n : ℕ) → IsSome (map.get (map.insert m number x) n) → map.get other n ≡ None
comes_apart m other number x none before n some = at (eq_by_cmp nat_cmp n number) refl (subst IsSome (map.get-insert nat_cmp_total m number x n) some)
  where
    at : (b : Bool) → eq_by_cmp nat_cmp n number ≡ b → IsSome (cond b (Some x) (map.get m n)) → map.get other n ≡ None
    at true t s = ap (map.get other) (map.nat_cmp-IsAntisymmetric n number (tied _ t)) ∙ none
    at false t s = before n s

module _ (a : AccountState) (vault : VaultState) (lawful : IsLawfulVault a.counter a.last vault) where
  -- with other uploads
  pub right_uploads : (uploads : map.FinMap nat_cmp Upload) → ((n : ℕ) → IfSome (map.get uploads n) (IsDrawn a.counter (IsLawfulUpload a.last) n))
      → ((n : ℕ) → IsSome (map.get vault.finished n) → map.get uploads n ≡ None) → IsLawfulVault a.counter a.last (record vault { uploads = uploads })
  right_uploads uploads right apart = record {
    created = lawful.created;
    bytes = lawful.bytes;
    archives = lawful.archives;
    held = lawful.held;
    live_or_held = lawful.live_or_held;
    uploads = right;
    finished = lawful.finished;
    open_or_finished = apart;
    jobs = lawful.jobs;
    named = lawful.named;
    lock = lawful.lock;
    due = lawful.due;
  }

  -- with other jobs, what they name, and the moment that is due then
  pub right_jobs : (jobs : map.FinMap nat_cmp Job) (due : Option ℕ) → due ≡ content_due (record vault { jobs = jobs }) → ((n : ℕ) → IfSome (map.get jobs n) (IsDrawn a.counter (IsLawfulJob a.counter a.last vault.archives vault.held) n))
      → IsLawfulVault a.counter a.last (record (with_jobs vault jobs) { due = due })
  right_jobs jobs due is right = record {
    created = lawful.created;
    bytes = lawful.bytes;
    archives = lawful.archives;
    held = lawful.held;
    live_or_held = lawful.live_or_held;
    uploads = lawful.uploads;
    finished = lawful.finished;
    open_or_finished = lawful.open_or_finished;
    jobs = right;
    named = refl;
    lock = lawful.lock;
    due = is;
  }

  -- with other archives, beside no job
  pub right_archives : (archives held : Archives) (due : Option ℕ) → due ≡ content_due (record vault { held = held }) → map.len vault.jobs ≡ 0 → ((n : ℕ) → IfSome (map.get archives n) (IsDrawn a.counter (IsLawfulArchive a.last) n))
      → ((n : ℕ) → IfSome (map.get held n) (IsDrawn a.counter (IsLawfulArchive a.last) n)) → ((n : ℕ) → IsSome (map.get held n) → map.get archives n ≡ None)
      → IsLawfulVault a.counter a.last (record (with_archives vault archives) { held = held; due = due })
  right_archives archives held due is none live kept apart = record {
    created = lawful.created;
    bytes = refl;
    archives = live;
    held = kept;
    live_or_held = apart;
    uploads = lawful.uploads;
    finished = lawful.finished;
    open_or_finished = lawful.open_or_finished;
    jobs = λ n. subst (λ m. IfSome (map.get m n) (IsDrawn a.counter (IsLawfulJob a.counter a.last archives held) n)) (sym (map.empty_of_len vault.jobs none)) (if_some-empty nat_cmp (IsDrawn a.counter (IsLawfulJob a.counter a.last archives held) n) n);
    named = lawful.named;
    lock = lawful.lock;
    due = is;
  }
