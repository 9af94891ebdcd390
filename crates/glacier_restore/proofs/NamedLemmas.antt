-- What isn't named counts for nothing.
use Rattle.std.specs.Prelude.{◌≡◌, ℕ, ◌+◌, ◌≤◌, Bool, true, false, cond, not, ◌&&◌, ◌||◌, List, [], ◌∷◌, nat_eq, nat_lt, sum_by, count_by}
use Rattle.std.specs.FinMap as map
use Rattle.std.specs.List.{list_any}
use Rattle.std.proofs.Common.{ap, refl, subst, arith}
use Rattle.std.proofs.lemmas.Bool.{and_parts, eqb-true}
use Rattle.std.proofs.lemmas.Bool.Decides.{nat_tests}
use Rattle.std.proofs.lemmas.List.Sums.{sum_by-cons}
use Rattle.glacier_vault.specs.Totals.{naming, times_named, upload_total, vault_total}
use Rattle.glacier_vault.specs.declared.archive.Archive.{Archive}
use Rattle.glacier_vault.specs.declared.archive.Part.{Part}
use Rattle.glacier_vault.specs.declared.archive.Upload.{Upload}
use Rattle.glacier_vault.specs.declared.state.AccountState.{AccountState}
use Rattle.glacier_vault.specs.declared.state.VaultState.{VaultState}
use Rattle.glacier_vault.proofs.TotalsLemmas.{sum_by-zero, lock_total-zero}
use Rattle.glacier_restore.specs.Fitting.{are_apart}
use Rattle.glacier_restore.specs.Restoring.{archive_names, upload_names, vault_names, is_named, numbers_of}
use Rattle.glacier_records.specs.declared.kept.Blob.{Blob}

pub neither : (a b : Bool) → (a || b) ≡ false → (a ≡ false) × (b ≡ false)
neither true b e = cc
neither false b e = (refl, e)

pub not_true : (b : Bool) → not b ≡ true → b ≡ false
not_true true e = cc
not_true false e = refl

-- where no value passes a test, and what fails it counts for nothing, the sum is 0
none_counts : {X : Type 0} (test : X → Bool) (f : X → ℕ) → ((x : X) → test x ≡ false → f x ≡ 0) → (xs : List X) → list_any test xs ≡ false → sum_by f xs ≡ 0
none_counts test f free [] none = refl
none_counts {X = X} test f free (x ∷ xs) none =
    let apart = neither (test x) (list_any test xs) none in
    omega (arith, sum_by-cons {X = X} f x xs, free x apart.0, none_counts test f free xs apart.1)

-- 1 where a test passes
abbrev pub one_if : Bool → ℕ
one_if b = cond b 1 0

module _ (blob : ℕ) where
  other_counts : (n : ℕ) → nat_eq n blob ≡ false → one_if (nat_eq n blob) ≡ 0
  other_counts n e = ap one_if e

  archive_counts : (archive : Archive) → archive_names blob archive ≡ false → (naming blob).archive archive ≡ 0
  archive_counts archive e = none_counts (λ n. nat_eq n blob) (λ n. one_if (nat_eq n blob)) other_counts archive.blobs e

  upload_counts : (upload : Upload) → upload_names blob upload ≡ false → upload_total (naming blob) upload ≡ 0
  upload_counts upload e =
      let parts = none_counts (λ (part : Part). nat_eq part.blob blob) (naming blob).part (λ part. other_counts part.blob) (map.values upload.parts) e in
      omega (arith, parts)

  vault_counts : (vault : VaultState) → vault_names blob vault ≡ false → vault_total (naming blob) vault ≡ 0
  vault_counts vault e =
      let uploads = neither (list_any (archive_names blob) (map.values vault.archives) || list_any (archive_names blob) (map.values vault.held)) (list_any (upload_names blob) (map.values vault.uploads)) e in
      let archives = neither (list_any (archive_names blob) (map.values vault.archives)) (list_any (archive_names blob) (map.values vault.held)) uploads.0 in
      omega (
        arith,
        none_counts (archive_names blob) (naming blob).archive archive_counts (map.values vault.archives) archives.0,
        none_counts (archive_names blob) (naming blob).archive archive_counts (map.values vault.held) archives.1,
        none_counts (upload_names blob) (upload_total (naming blob)) upload_counts (map.values vault.uploads) uploads.1,
        sum_by-zero (naming blob).finished (λ finished. refl) (map.values vault.finished),
        sum_by-zero (naming blob).job (λ job. refl) (map.values vault.jobs),
        lock_total-zero (naming blob) (λ lock. refl) vault.lock,
      )

  -- so a blob that isn't named
  pub new_counts : (a : AccountState) → is_named a blob ≡ false → times_named blob a.vaults ≡ 0
  new_counts a e = none_counts (vault_names blob) (vault_total (naming blob)) vault_counts (map.values a.vaults) e

  -- how often it stands in a list
  abbrev pub times : List ℕ → ℕ
  times ns = count_by (λ n. nat_eq n blob) ns

  pub times_step : (n : ℕ) (ns : List ℕ) → times (n ∷ ns) ≡ one_if (nat_eq n blob) + times ns
  times_step n ns = sum_by-cons {X = ℕ} (λ n. one_if (nat_eq n blob)) n ns

  -- of numbers that are apart once at most
  pub apart_once : (counter : ℕ) (ns : List ℕ) → are_apart counter ns ≡ true → times ns ≤ 1
  apart_once counter [] e = omega arith
  apart_once counter (n ∷ ns) e =
      let rest = and_parts (nat_lt n counter && not (list_any (λ y. nat_eq y n) ns)) (are_apart counter ns) e in
      let here = and_parts (nat_lt n counter) (not (list_any (λ y. nat_eq y n) ns)) rest.0 in
      at (nat_eq n blob) refl (not_true _ here.1) (apart_once counter ns rest.1)
    where
      at : (b : Bool) → nat_eq n blob ≡ b → list_any (λ y. nat_eq y n) ns ≡ false → times ns ≤ 1 → times (n ∷ ns) ≤ 1
      at true t other later =
          let same : n ≡ blob = eqb-true n blob t in
          let none : times ns ≡ 0 = none_counts (λ y. nat_eq y blob) (λ y. one_if (nat_eq y blob)) other_counts ns (subst (λ k. list_any (λ y. nat_eq y k) ns ≡ false) same other) in
          omega (arith, times_step n ns, ap one_if t, none)
      at false t other later = omega (arith, times_step n ns, ap one_if t, later)

  -- and not at all where it wasn't drawn
  pub apart_drawn : (counter : ℕ) (ns : List ℕ) → are_apart counter ns ≡ true → counter ≤ blob → times ns ≡ 0
  apart_drawn counter [] e high = refl
  apart_drawn counter (n ∷ ns) e high =
      let rest = and_parts (nat_lt n counter && not (list_any (λ y. nat_eq y n) ns)) (are_apart counter ns) e in
      let here = and_parts (nat_lt n counter) (not (list_any (λ y. nat_eq y n) ns)) rest.0 in
      let other : one_if (nat_eq n blob) ≡ 0 = below n here.0 in
      omega (arith, times_step n ns, other, apart_drawn counter ns rest.1 high)
    where
      below : (k : ℕ) → nat_lt k counter ≡ true → one_if (nat_eq k blob) ≡ 0
      below k lt = grind (arith, nat_tests)

-- a blob that stands in a list of those that aren't named isn't named
pub listed_is_new : (a : AccountState) (blob : ℕ) (blobs : List Blob) → list_any (λ (b : Blob). is_named a b.number) blobs ≡ false → 1 ≤ count_by (λ n. nat_eq n blob) (numbers_of blobs) → is_named a blob ≡ false
listed_is_new a blob [] none some = absurd (omega arith)
listed_is_new a blob (b ∷ bs) none some =
    let parts = neither (is_named a b.number) (list_any (λ (b : Blob). is_named a b.number) bs) none in
    at (nat_eq b.number blob) refl parts.0 (listed_is_new a blob bs parts.1)
  where
    at : (t : Bool) → nat_eq b.number blob ≡ t → is_named a b.number ≡ false → (1 ≤ count_by (λ n. nat_eq n blob) (numbers_of bs) → is_named a blob ≡ false) → is_named a blob ≡ false
    at true t here later = subst (λ n. is_named a n ≡ false) (eqb-true b.number blob t) here
    at false t here later = later (omega (arith, times_step blob b.number (numbers_of bs), ap one_if t))
