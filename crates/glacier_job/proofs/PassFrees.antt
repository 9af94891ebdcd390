-- What a moment frees.
use Rattle.std.specs.Prelude.{◌≡◌, ℕ, List, [], ◌∷◌, sum_by}
use Rattle.std.specs.FinMap as map
use Rattle.std.specs.List.{flat_map}
use Rattle.std.proofs.Common.{refl, arith}
use Rattle.std.proofs.lemmas.List.Sums.{sum_by-cons}
use Rattle.glacier_vault.specs.Freed.{times_in, FreesJust}
use Rattle.glacier_vault.specs.Named.{blobs_of}
use Rattle.glacier_vault.specs.Totals.{naming}
use Rattle.glacier_vault.specs.declared.state.AccountState.{AccountState}
use Rattle.glacier_vault.specs.declared.state.VaultState.{VaultState}
use Rattle.glacier_vault.proofs.FreedLemmas.{times_in-append, times_in-blobs_of}
use Rattle.glacier_job.specs.Pass.{dropped, freed, pass}
use Rattle.glacier_job.proofs.PassTotals.{naming_is_steady, dropped_sum, total-pass}

times_in-freed : (m blob : ℕ) (vaults : List VaultState) → times_in blob (flat_map (λ vault. blobs_of (dropped m vault)) vaults) ≡ sum_by (λ vault. sum_by (naming blob).archive (dropped m vault)) vaults
times_in-freed m blob [] = refl
times_in-freed m blob (vault ∷ vaults) =
    omega (
      arith,
      times_in-append blob (blobs_of (dropped m vault)) (flat_map (λ vault. blobs_of (dropped m vault)) vaults),
      times_in-blobs_of blob (dropped m vault),
      times_in-freed m blob vaults,
      sum_by-cons (λ (vault : VaultState). sum_by (naming blob).archive (dropped m vault)) vault vaults,
    )

pub pass-frees : (a : AccountState) (m : ℕ) → FreesJust a (pass m a) (freed m a)
pass-frees a m blob = omega (arith, times_in-freed m blob (map.values a.vaults), total-pass m (naming blob) (naming_is_steady blob) a.vaults, dropped_sum m (naming blob) (λ _. refl) (map.values a.vaults))
