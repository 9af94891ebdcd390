-- How long an account's snapshot is after a deletion.
use Rattle.std.specs.Prelude.{◌≡◌, ℕ, ◌≤◌, ◌+◌, List, length, Option, Some, None, IsSome, cond}
use Rattle.std.specs.FinMap as map
use Rattle.std.proofs.Common.{ap, arith}
use Rattle.glacier_base.specs.Maps.{changed_at}
use Rattle.glacier_vault.specs.Deletions.{without_archive, length_freed, live_archive}
use Rattle.glacier_vault.specs.Lawful.{IsLawful}
use Rattle.glacier_vault.specs.Lengths.{lengths, archive_length, length_of_vault, snapshot_length}
use Rattle.glacier_vault.specs.Named.{is_named}
use Rattle.glacier_vault.specs.declared.archive.Archive.{Archive}
use Rattle.glacier_vault.specs.declared.state.AccountState.{AccountState}
use Rattle.glacier_vault.specs.declared.state.VaultState.{VaultState}
use Rattle.glacier_vault.proofs.LengthLemmas.{length_within, length-remove, length-changed_at}
use Rattle.glacier_vault.proofs.WithoutArchive.{balance, of_live}

module _ (a : AccountState) (m : ℕ) (lawful : IsLawful a) (name : List ℕ) (vault : VaultState) (there : map.get a.vaults name ≡ Some vault) where
  -- what a vault has is part of what the account has
  pub vault_length_within : length_of_vault name vault ≤ a.length
  vault_length_within = omega (arith, lawful.length, length_within a.vaults name vault there)

  pub length-delete : (left : ℕ) → left + length_of_vault name vault ≡ a.length → left ≡ snapshot_length (map.remove a.vaults name)
  length-delete left is = omega (arith, is, lawful.length, length-remove a.vaults name vault there)

  module _ (number : ℕ) (some : IsSome (live_archive a name number)) where
    length_balance : snapshot_length (changed_at (without_archive number) a.vaults name) + length_freed (length name) number vault ≡ a.length
    length_balance = of_live a m lawful name number vault there some _ (λ archive live.
        let freed : length_freed (length name) number vault ≡ cond (is_named vault.jobs number) 0 (archive_length (length name) archive) =
        ap (λ (r : Option Archive). cond (is_named vault.jobs number) 0 (elim r [ None ↦ 0 | Some a ↦ archive_length (length name) a ])) live in
        omega (arith, freed, lawful.length, balance a m lawful name number vault there archive live (lengths (length name)), length-changed_at a.vaults name vault there (without_archive number)))

    -- how many bytes the deletion of an archive takes away
    pub length_freed_within : length_freed (length name) number vault ≤ a.length
    length_freed_within = omega (arith, length_balance)

    pub length-without_archive : (left : ℕ) → left + length_freed (length name) number vault ≡ a.length → left ≡ snapshot_length (changed_at (without_archive number) a.vaults name)
    length-without_archive left is = omega (arith, is, length_balance)
