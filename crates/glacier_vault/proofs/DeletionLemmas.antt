-- What the row of a vault's deletion leaves.
use Rattle.std.specs.Prelude.{◌≡◌, ℕ, ◌≤◌, ◌+◌, ◌-◌, Bool, true, false, cond, List, Option, Some, None, Ok, Err, IsTrue, is_none, sum_by}
use Rattle.std.specs.FinMap as map
use Rattle.std.specs.Ordering.{nat_cmp}
use Rattle.std.proofs.Common.{◌∙◌, ap, refl, subst, arith}
use Rattle.glacier_vault.specs.Deletions.{has_content, is_locked, deletion_refusal, delete_row, may_go}
use Rattle.glacier_vault.specs.Lawful.{IsLawful}
use Rattle.glacier_vault.specs.Named.{blobs_of}
use Rattle.glacier_vault.specs.Rows.{Row, state_after, no_change, changed_freeing, with_vaults}
use Rattle.glacier_vault.specs.Totals.{Weight, vault_total, total, upload_total, lock_total, blocks, each_upload, each_job, used_in, uploads_in, jobs_in}
use Rattle.glacier_vault.specs.declared.event.Change.{Change}
use Rattle.glacier_vault.specs.declared.event.Event.TheVariants.{DeleteVault}
use Rattle.glacier_vault.specs.declared.refusal.Refusal.{Refusal}
use Rattle.glacier_vault.specs.declared.refusal.Refusal.TheVariants.{VaultNotEmpty, VaultLocked}
use Rattle.glacier_vault.specs.declared.state.AccountState.{AccountState}
use Rattle.glacier_vault.specs.declared.state.VaultState.{VaultState}
use Rattle.glacier_vault.proofs.KeepsLawful.{lawful-remove}
use Rattle.glacier_vault.proofs.TotalsLemmas.{CountsBodies, blocks_of_bodies, sum_by-empty, sum_by-none, sum_by-zero, sum_by-count, lock_total-zero, total-remove}

-- a vault that may be deleted has no content
pub bare_where : (vault : VaultState) → deletion_refusal vault ≡ None → has_content vault ≡ false
bare_where vault = at (has_content vault) (is_locked vault.lock)
  where
    at : (full fixed : Bool) → cond full (Some VaultNotEmpty) (cond fixed (Some VaultLocked) None) ≡ None → full ≡ false
    at true fixed e = cc
    at false fixed e = refl

-- and one that may go has none
pub bare_there : (account : AccountState) (name : List ℕ) (vault : VaultState) → map.get account.vaults name ≡ Some vault → IsTrue (may_go account name) → has_content vault ≡ false
bare_there account name vault there may = bare_where vault (none_where (deletion_refusal vault) (subst (λ r. IsTrue (elim r [ None ↦ false | Some v ↦ is_none (deletion_refusal v) ])) there may))
  where
    none_where : (r : Option Refusal) → IsTrue (is_none r) → r ≡ None
    none_where None h = refl
    none_where (Some refusal) h = cc

module _ (vault : VaultState) (w : Weight) where
  -- a vault without content has but its held archives, its finished uploads, its jobs and its lock
  pub bare_total : has_content vault ≡ false → vault_total w vault ≡ sum_by w.archive (map.values vault.held) + sum_by w.finished (map.values vault.finished) + sum_by w.job (map.values vault.jobs) + lock_total w vault.lock + w.vault
  bare_total e =
      let archives : map.len vault.archives ≡ 0 = grind (arith, e) in
      let uploads : map.len vault.uploads ≡ 0 = grind (arith, e) in
      let none = ap (λ m. sum_by w.archive (map.values m)) (map.empty_of_len vault.archives archives) ∙ sum_by-empty nat_cmp w.archive in
      let neither = ap (λ m. sum_by (upload_total w) (map.values m)) (map.empty_of_len vault.uploads uploads) ∙ sum_by-empty nat_cmp (upload_total w) in
      omega (arith, none, neither)

  -- and where bodies alone are counted, its held archives alone
  pub held_total : has_content vault ≡ false → CountsBodies w → vault_total w vault ≡ sum_by w.archive (map.values vault.held)
  held_total e bodies =
      omega (arith, bare_total e, bodies.vault, sum_by-zero w.finished bodies.finished (map.values vault.finished), sum_by-zero w.job bodies.job (map.values vault.jobs), lock_total-zero w bodies.lock vault.lock)

module _ (a : AccountState) (lawful : IsLawful a) (name : List ℕ) (vault : VaultState) (there : map.get a.vaults name ≡ Some vault) where
  -- what a vault has is part of what the account has
  pub vault_within : (w : Weight) → vault_total w vault ≤ total w a.vaults
  vault_within w = omega (arith, total-remove w a.vaults name vault there)

  pub held_within : sum_by blocks.archive (map.values vault.held) ≤ a.used
  held_within = omega (arith, lawful.used, vault_within blocks)

  pub jobs_within : map.len vault.jobs ≤ a.jobs
  jobs_within = omega (arith, lawful.jobs, vault_within each_job, sum_by-count vault.jobs)

  module _ (bare : has_content vault ≡ false) where
    pub used-delete : a.used - sum_by blocks.archive (map.values vault.held) ≡ used_in (map.remove a.vaults name)
    used-delete = omega (arith, lawful.used, total-remove blocks a.vaults name vault there, held_total vault blocks bare blocks_of_bodies)

    pub uploads-delete : a.uploads ≡ uploads_in (map.remove a.vaults name)
    uploads-delete = omega (arith, lawful.uploads, total-remove each_upload a.vaults name vault there, held_total vault each_upload bare (record { vault = refl; finished = λ _. refl; job = λ _. refl; lock = λ _. refl }), sum_by-none (map.values vault.held))

    pub jobs-delete : a.jobs - map.len vault.jobs ≡ jobs_in (map.remove a.vaults name)
    jobs-delete = omega (arith, lawful.jobs, total-remove each_job a.vaults name vault there, bare_total vault each_job bare, sum_by-none (map.values vault.held), sum_by-none (map.values vault.finished), lock_total-zero each_job (λ _. refl) vault.lock, sum_by-count vault.jobs)

module _ (a : AccountState) (m : ℕ) (name : List ℕ) where
  -- the row, by why the vault isn't deleted, and by the vault
  abbrev pub by_refusal : VaultState → Option Refusal → Row Change
  by_refusal vault r = elim r [
    | Some refusal ↦ Err refusal
    | None ↦ Ok (with_vaults a m (map.remove a.vaults name), changed_freeing (DeleteVault name) (blobs_of (map.values vault.held)))
  ]

  abbrev pub by_vault : Option VaultState → Row Change
  by_vault r = elim r [ None ↦ Ok (a, no_change) | Some vault ↦ by_refusal vault (deletion_refusal vault) ]

  module _ (lawful : IsLawful a) (le : a.last ≤ m) where
    pub lawful-removal : (vault : VaultState) → map.get a.vaults name ≡ Some vault → IsLawful (with_vaults a m (map.remove a.vaults name))
    lawful-removal vault there = lawful-remove a a.counter m (omega arith) le lawful name vault there

    lawful-by_refusal : (vault : VaultState) → map.get a.vaults name ≡ Some vault → (r : Option Refusal) → IsLawful (state_after a (by_refusal vault r))
    lawful-by_refusal vault there (Some refusal) = lawful
    lawful-by_refusal vault there None = lawful-removal vault there

    lawful-by_vault : (r : Option VaultState) → map.get a.vaults name ≡ r → IsLawful (state_after a (by_vault r))
    lawful-by_vault None there = lawful
    lawful-by_vault (Some vault) there = lawful-by_refusal vault there (deletion_refusal vault)

    pub lawful-delete : IsLawful (state_after a (delete_row a m name))
    lawful-delete = lawful-by_vault (map.get a.vaults name) refl
