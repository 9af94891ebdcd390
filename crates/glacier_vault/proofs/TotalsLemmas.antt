-- What a change of a map adds to a total over an account, or takes from it.
use Rattle.std.specs.Prelude.{◌≡◌, ℕ, ◌+◌, List, [], ◌∷◌, length, Option, Some, None, sum_by}
use Rattle.std.specs.Cmp.Lexicographic.{nat_list_cmp_total}
use Rattle.std.specs.declared.cmp.Ordering.{Ordering}
use Rattle.std.specs.FinMap as map
use Rattle.std.specs.Map.{values_of}
use Rattle.std.specs.Ordering.{nat_cmp}
use Rattle.std.proofs.Common.{◌∙◌, ap, sym, refl, arith}
use Rattle.std.proofs.lemmas.List.Sums.{sum_by-cons}
use Rattle.std.proofs.lemmas.Map.Entries.{length-values_of}
use Rattle.glacier_base.specs.Maps.{changed_at}
use Rattle.glacier_base.proofs.Finite.{bytes_cmp-IsAntisymmetric}
use Rattle.glacier_base.proofs.Sums.{weight, sum_by-insert, sum_by-remove, sum_by-changed_at}
use Rattle.glacier_vault.specs.Account.{new_vault}
use Rattle.glacier_vault.specs.Totals.{Weight, Vaults, vault_total, total, upload_total, lock_total, blocks, naming}
use Rattle.glacier_vault.specs.declared.archive.Finished.{Finished}
use Rattle.glacier_vault.specs.declared.job.Job.{Job}
use Rattle.glacier_vault.specs.declared.lock.Lock.{Lock}
use Rattle.glacier_vault.specs.declared.state.VaultState.{VaultState}

no_entries : {X : Type 0} (es : List X) → length es ≡ 0 → es ≡ []
no_entries [] e = refl
no_entries (x ∷ es) e = absurd (omega arith)

module _ {K X : Type 0} (R : K → K → Ordering) (f : X → ℕ) where
  pub sum_by-empty : sum_by f (map.values (map.empty {X = X} {R = R})) ≡ 0
  sum_by-empty =
      let none : map.entries (map.empty {X = X} {R = R}) ≡ [] = no_entries _ (sym (map.len-entries (map.empty {X = X} {R = R})) ∙ map.len-empty R X) in
      ap (λ (es : List (K × X)). sum_by f (values_of es)) none

-- a sum of nothing for each
pub sum_by-none : {X : Type 0} (xs : List X) → sum_by (λ x. 0) xs ≡ 0
sum_by-none [] = refl
sum_by-none {X = X} (x ∷ xs) = omega (arith, sum_by-none xs, sum_by-cons {X = X} (λ x. 0) x xs)

pub sum_by-zero : {X : Type 0} (f : X → ℕ) → ((x : X) → f x ≡ 0) → (xs : List X) → sum_by f xs ≡ 0
sum_by-zero f none [] = refl
sum_by-zero f none (x ∷ xs) = omega (arith, none x, sum_by-zero f none xs, sum_by-cons f x xs)

-- and of 1 for each
pub sum_by-each : {X : Type 0} (xs : List X) → sum_by (λ x. 1) xs ≡ length xs
sum_by-each [] = refl
sum_by-each {X = X} (x ∷ xs) = let goal : sum_by (λ x. 1) (x ∷ xs) ≡ length (x ∷ xs) = omega (arith, sum_by-each xs, sum_by-cons {X = X} (λ x. 1) x xs) in goal

-- how many values a map has
pub sum_by-count : {K X : Type 0} {R : K → K → Ordering} (m : map.FinMap R X) → sum_by (λ x. 1) (map.values m) ≡ map.len m
sum_by-count m = sum_by-each (map.values m) ∙ length-values_of (map.entries m) ∙ sym (map.len-entries m)

-- a weight of bodies counts neither vaults, finished uploads, jobs nor locks
pub record CountsBodies (w : Weight) : Type 0 where
  pub vault : w.vault ≡ 0
  pub finished : (finished : Finished) → w.finished finished ≡ 0
  pub job : (job : Job) → w.job job ≡ 0
  pub lock : (lock : Lock) → w.lock lock ≡ 0

pub blocks_of_bodies : CountsBodies blocks
blocks_of_bodies = record { vault = refl; finished = λ _. refl; job = λ _. refl; lock = λ _. refl }

pub naming_of_bodies : (blob : ℕ) → CountsBodies (naming blob)
naming_of_bodies blob = record { vault = refl; finished = λ _. refl; job = λ _. refl; lock = λ _. refl }

module _ (w : Weight) where
  -- a lock that counts for nothing
  pub lock_total-zero : ((lock : Lock) → w.lock lock ≡ 0) → (lock : Option Lock) → lock_total w lock ≡ 0
  lock_total-zero none None = refl
  lock_total-zero none (Some lock) = none lock

  pub vault_total-new_vault : (m : ℕ) → vault_total w (new_vault m) ≡ w.vault
  vault_total-new_vault m =
      omega (arith, sum_by-empty nat_cmp w.archive, sum_by-empty nat_cmp (upload_total w), sum_by-empty nat_cmp w.finished, sum_by-empty nat_cmp w.job)

  module _ (vaults : Vaults) (name : List ℕ) where
    pub total-insert : (vault : VaultState) → map.get vaults name ≡ None → total w (map.insert vaults name vault) ≡ total w vaults + vault_total w vault
    total-insert vault none = omega (arith, sum_by-insert nat_list_cmp_total (vault_total w) vaults name vault, ap (weight (vault_total w)) none)

    -- a vault that is made adds but itself
    pub total-new_vault : (m : ℕ) → map.get vaults name ≡ None → total w (map.insert vaults name (new_vault m)) ≡ total w vaults + w.vault
    total-new_vault m none = omega (arith, total-insert (new_vault m) none, vault_total-new_vault m)

    module _ (vault : VaultState) (there : map.get vaults name ≡ Some vault) where
      pub total-remove : total w (map.remove vaults name) + vault_total w vault ≡ total w vaults
      total-remove = omega (arith, sum_by-remove nat_list_cmp_total (vault_total w) bytes_cmp-IsAntisymmetric vaults name, ap (weight (vault_total w)) there)

      pub total-changed_at : (f : VaultState → VaultState) → total w (changed_at f vaults name) + vault_total w vault ≡ total w vaults + vault_total w (f vault)
      total-changed_at f = sum_by-changed_at nat_list_cmp_total (vault_total w) bytes_cmp-IsAntisymmetric vaults name f vault there
