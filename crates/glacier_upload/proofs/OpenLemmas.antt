-- The open upload of a number in the vault of a name.
use Rattle.std.specs.Prelude.{◌≡◌, ℕ, List, Option, Some, None}
use Rattle.std.specs.FinMap as map
use Rattle.std.proofs.Common.{◌∙◌, ap, sym}
use Rattle.glacier_vault.specs.declared.archive.Upload.{Upload}
use Rattle.glacier_vault.specs.declared.state.AccountState.{AccountState}
use Rattle.glacier_vault.specs.declared.state.VaultState.{VaultState}
use Rattle.glacier_upload.specs.Uploads.{open_upload}

module _ (a : AccountState) (name : List ℕ) (number : ℕ) (vault : VaultState) (upload : Upload) (there : map.get a.vaults name ≡ Some vault) (is_open : map.get vault.uploads number ≡ Some upload) where
  -- it is found in two steps
  pub opened : open_upload a name number ≡ Some upload
  opened = ap (λ r. elim r as (λ _. Option Upload) [ None ↦ None | Some vault ↦ map.get vault.uploads number ]) there ∙ is_open

  -- and there is but one
  pub same_open : (other : Upload) → open_upload a name number ≡ Some other → other ≡ upload
  same_open other e = let both : Some other ≡ Some upload = sym e ∙ opened in cc
