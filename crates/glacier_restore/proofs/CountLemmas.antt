-- What counts for nothing isn't named, and the blobs of an archive of a lawful account are apart.
use Rattle.std.specs.Prelude.{◌≡◌, ℕ, ◌≤◌, ◌<◌, Bool, true, false, not, ◌||◌, List, [], ◌∷◌, Some, nat_eq, sum_by}
use Rattle.std.specs.Cmp.{IsTotalOrder}
use Rattle.std.specs.FinMap as map
use Rattle.std.specs.List.{list_any}
use Rattle.std.specs.declared.cmp.Ordering.{Ordering}
use Rattle.std.proofs.Common.{◌∙◌, ap, refl, inl, inr, arith}
use Rattle.std.proofs.lemmas.Bool.{cases_lt}
use Rattle.std.proofs.lemmas.List.Sums.{sum_by-cons}
use Rattle.glacier_base.proofs.Sums.{weight, sum_by-remove}
use Rattle.glacier_vault.specs.Totals.{naming, times_named, upload_total, vault_total}
use Rattle.glacier_vault.specs.declared.archive.Archive.{Archive}
use Rattle.glacier_vault.specs.declared.archive.Part.{Part}
use Rattle.glacier_vault.specs.declared.archive.Upload.{Upload}
use Rattle.glacier_vault.specs.declared.state.AccountState.{AccountState}
use Rattle.glacier_vault.specs.declared.state.VaultState.{VaultState}
use Rattle.glacier_restore.specs.Fitting.{are_apart}
use Rattle.glacier_restore.specs.Restoring.{archive_names, upload_names, vault_names, is_named}
use Rattle.glacier_restore.proofs.NamedLemmas.{one_if, times, times_step}
use Rattle.glacier_restore.proofs.PlacedLemmas.{both, lt_test, eq_test}

-- where a sum is 0, and what counts for nothing fails a test, no value passes it
none_passes : {X : Type 0} (test : X → Bool) (f : X → ℕ) → ((x : X) → f x ≡ 0 → test x ≡ false) → (xs : List X) → sum_by f xs ≡ 0 → list_any test xs ≡ false
none_passes test f fails [] none = refl
none_passes {X = X} test f fails (x ∷ xs) none =
    ap (λ b. b || list_any test xs) (fails x (omega (arith, sum_by-cons {X = X} f x xs, none)))
    ∙ none_passes test f fails xs (omega (arith, sum_by-cons {X = X} f x xs, none))

not_one : (b : Bool) → one_if b ≡ 0 → b ≡ false
not_one true e = absurd (omega (arith, e))
not_one false e = refl

pub none_of : (a b : Bool) → a ≡ false → b ≡ false → (a || b) ≡ false
none_of true b p q = cc
none_of false b p q = q

module _ (blob : ℕ) where
  archive_uncounted : (archive : Archive) → (naming blob).archive archive ≡ 0 → archive_names blob archive ≡ false
  archive_uncounted archive e = none_passes (λ n. nat_eq n blob) (λ n. one_if (nat_eq n blob)) (λ n. not_one (nat_eq n blob)) archive.blobs e

  upload_uncounted : (upload : Upload) → upload_total (naming blob) upload ≡ 0 → upload_names blob upload ≡ false
  upload_uncounted upload e =
      none_passes (λ (part : Part). nat_eq part.blob blob) (naming blob).part (λ part. not_one (nat_eq part.blob blob)) (map.values upload.parts) (omega (arith, e))

  vault_uncounted : (vault : VaultState) → vault_total (naming blob) vault ≡ 0 → vault_names blob vault ≡ false
  vault_uncounted vault e =
      none_of _ _
      (none_of _ _
      (none_passes (archive_names blob) (naming blob).archive archive_uncounted (map.values vault.archives) (omega (arith, e)))
      (none_passes (archive_names blob) (naming blob).archive archive_uncounted (map.values vault.held) (omega (arith, e))))
      (none_passes (upload_names blob) (upload_total (naming blob)) upload_uncounted (map.values vault.uploads) (omega (arith, e)))

  pub uncounted : (a : AccountState) → times_named blob a.vaults ≡ 0 → is_named a blob ≡ false
  uncounted a e = none_passes (vault_names blob) (vault_total (naming blob)) vault_uncounted (map.values a.vaults) e

-- numbers that stand once at most, and below the counter, are apart
pub apart_again : (counter : ℕ) (ns : List ℕ) → ((blob : ℕ) → times blob ns ≤ 1) → ((blob : ℕ) → counter ≤ blob → times blob ns ≡ 0) → are_apart counter ns ≡ true
apart_again counter [] once drawn = refl
apart_again counter (n ∷ ns) once drawn =
    let here : one_if (nat_eq n n) ≡ 1 = ap one_if (eq_test n n refl) in
    let low : n < counter = elim (cases_lt n counter) [
      | inl lt ↦ lt
      | inr high ↦ absurd (omega (arith, drawn n high, times_step n n ns, here))
    ] in
    let gone : times n ns ≡ 0 = omega (arith, once n, times_step n n ns, here) in
    both _ _ (both _ _ (lt_test n counter low) (ap not (none_passes (λ y. nat_eq y n) (λ y. one_if (nat_eq y n)) (λ y. not_one (nat_eq y n)) ns gone)))
    (apart_again counter ns (λ blob. omega (arith, once blob, times_step blob n ns)) (λ blob high. omega (arith, drawn blob high, times_step blob n ns)))

-- what a value of a map weighs is within what all of them do
pub value_within : {K X : Type 0} {R : K → K → Ordering} (o : IsTotalOrder R) (same : map.IsAntisymmetric R) (f : X → ℕ) (m : map.FinMap R X) (k : K) (x : X)
    → map.get m k ≡ Some x → f x ≤ sum_by f (map.values m)
value_within o same f m k x there = omega (arith, sum_by-remove o f same m k, ap (weight f) there)
