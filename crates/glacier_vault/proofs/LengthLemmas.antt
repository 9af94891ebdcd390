-- How long an account's snapshot is after a change of its vaults.
use Rattle.std.specs.Prelude.{◌≡◌, ℕ, ◌≤◌, ◌+◌, List, Some, None}
use Rattle.std.specs.Cmp.Lexicographic.{nat_list_cmp_total, slice_cmp}
use Rattle.std.specs.FinMap as map
use Rattle.std.specs.Ordering.{nat_cmp}
use Rattle.std.proofs.Common.{ap, arith}
use Rattle.glacier_base.specs.Maps.{changed_at}
use Rattle.glacier_base.proofs.Finite.{bytes_cmp-IsAntisymmetric}
use Rattle.glacier_vault.specs.Lengths.{account_length, length_of_vault, snapshot_length}
use Rattle.glacier_vault.specs.Totals.{Vaults}
use Rattle.glacier_vault.specs.declared.state.VaultState.{VaultState}
use Rattle.glacier_vault.proofs.EntrySums.{entry_sum-empty, entry_sum-insert, entry_sum-remove, entry_sum-changed_at}

pub length-empty : snapshot_length map.empty ≡ account_length
length-empty = ap (λ n. account_length + n) (entry_sum-empty (slice_cmp nat_cmp) length_of_vault)

module _ (vaults : Vaults) (name : List ℕ) (vault : VaultState) where
  -- one vault more
  pub length-insert : map.get vaults name ≡ None → snapshot_length (map.insert vaults name vault) ≡ snapshot_length vaults + length_of_vault name vault
  length-insert none = omega (arith, entry_sum-insert nat_list_cmp_total bytes_cmp-IsAntisymmetric length_of_vault vaults name vault none)

  module _ (there : map.get vaults name ≡ Some vault) where
    pub length-remove : snapshot_length (map.remove vaults name) + length_of_vault name vault ≡ snapshot_length vaults
    length-remove = omega (arith, entry_sum-remove nat_list_cmp_total bytes_cmp-IsAntisymmetric length_of_vault vaults name vault there)

    pub length_within : length_of_vault name vault ≤ snapshot_length vaults
    length_within = omega (arith, length-remove)

    pub length-changed_at : (f : VaultState → VaultState) → snapshot_length (changed_at f vaults name) + length_of_vault name vault ≡ snapshot_length vaults + length_of_vault name (f vault)
    length-changed_at f = omega (arith, entry_sum-changed_at nat_list_cmp_total bytes_cmp-IsAntisymmetric length_of_vault vaults name vault there f)
