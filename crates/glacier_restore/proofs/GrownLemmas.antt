-- An account in one of whose vaults something is put.
use Rattle.std.specs.Prelude.{◌≡◌, ℕ, ◌≤◌, ◌+◌, List, length, Some, IfSome}
use Rattle.std.specs.Cmp.Lexicographic.{nat_list_cmp_total}
use Rattle.std.specs.FinMap as map
use Rattle.std.proofs.Common.{◌∙◌, sym, refl, subst, arith}
use Rattle.glacier_base.specs.Maps.{changed_at}
use Rattle.glacier_base.proofs.Finite.{bytes_cmp-IsAntisymmetric}
use Rattle.glacier_base.proofs.LookUps.{if_some-changed_at}
use Rattle.glacier_vault.specs.Lawful.{IsLawful, IsLawfulVault}
use Rattle.glacier_vault.specs.Lengths.{lengths, snapshot_length}
use Rattle.glacier_vault.specs.Rows.{in_vault}
use Rattle.glacier_vault.specs.Totals.{Vaults, Weight, vault_total, total, blocks, each_upload, each_job, naming, times_named, used_in, uploads_in, jobs_in}
use Rattle.glacier_vault.specs.declared.state.AccountState.{AccountState}
use Rattle.glacier_vault.specs.declared.state.VaultState.{VaultState}
use Rattle.glacier_vault.proofs.LengthLemmas.{length-changed_at}
use Rattle.glacier_vault.proofs.TotalsLemmas.{total-changed_at}

-- what counts as gain names only blobs that were drawn and aren't named yet
pub record NamesNew (counter : ℕ) (vaults : Vaults) (gain : Weight → ℕ) (blob : ℕ) : Type 0 where
  pub once : times_named blob vaults + gain (naming blob) ≤ 1
  pub drawn : counter ≤ blob → gain (naming blob) ≡ 0

-- what the account's totals and its snapshot's length gain as f changes a vault
pub record GrowsBy (a : AccountState) (name : List ℕ) (f : VaultState → VaultState) (more_used more_uploads more_jobs more_length : ℕ) : Type 0 where
  pub used : a.used + more_used ≡ used_in (changed_at f a.vaults name)
  pub uploads : a.uploads + more_uploads ≡ uploads_in (changed_at f a.vaults name)
  pub jobs : a.jobs + more_jobs ≡ jobs_in (changed_at f a.vaults name)
  pub longer : a.length + more_length ≡ snapshot_length (changed_at f a.vaults name)

module _ (a : AccountState) (lawful : IsLawful a) where
  -- a gain that names no blob
  pub names_none : (gain : Weight → ℕ) → ((blob : ℕ) → gain (naming blob) ≡ 0) → (blob : ℕ) → NamesNew a.counter a.vaults gain blob
  names_none gain none blob = record { once = omega (arith, none blob, (lawful.blobs blob).once); drawn = λ _. none blob }

  module _ (name : List ℕ) (vault : VaultState) (there : map.get a.vaults name ≡ Some vault) where
    -- the vault, as the account holds it
    pub right_vault : IsLawfulVault a.counter a.last vault
    right_vault = subst (λ r. IfSome r (IsLawfulVault a.counter a.last)) there (lawful.vaults name)

    total-grown : (f : VaultState → VaultState) (w : Weight) (n : ℕ) → vault_total w (f vault) ≡ vault_total w vault + n → total w (changed_at f a.vaults name) ≡ total w a.vaults + n
    total-grown f w n grows = omega (arith, total-changed_at w a.vaults name vault there f, grows)

    module _ (f : VaultState → VaultState) where
      -- by these numbers
      pub grown_each : (used uploads jobs longer : ℕ)
          → vault_total blocks (f vault) ≡ vault_total blocks vault + used
          → vault_total each_upload (f vault) ≡ vault_total each_upload vault + uploads
          → vault_total each_job (f vault) ≡ vault_total each_job vault + jobs
          → vault_total (lengths (length name)) (f vault) ≡ vault_total (lengths (length name)) vault + longer
          → GrowsBy a name f used uploads jobs longer
      grown_each used uploads jobs longer of_used of_uploads of_jobs of_length = record {
        used = omega (arith, lawful.used, total-grown f blocks used of_used);
        uploads = omega (arith, lawful.uploads, total-grown f each_upload uploads of_uploads);
        jobs = omega (arith, lawful.jobs, total-grown f each_job jobs of_jobs);
        longer = omega (arith, lawful.length, length-changed_at a.vaults name vault there f, of_length);
      }

      -- by what each weight gains
      pub grown : (gain : Weight → ℕ) → ((w : Weight) → vault_total w (f vault) ≡ vault_total w vault + gain w)
          → GrowsBy a name f (gain blocks) (gain each_upload) (gain each_job) (gain (lengths (length name)))
      grown gain grows = grown_each (gain blocks) (gain each_upload) (gain each_job) (gain (lengths (length name))) (grows blocks) (grows each_upload) (grows each_job) (grows (lengths (length name)))

    module _ (f : VaultState → VaultState) (gain : Weight → ℕ) (names : (blob : ℕ) → vault_total (naming blob) (f vault) ≡ vault_total (naming blob) vault + gain (naming blob)) where
      names-grown : (blob : ℕ) → times_named blob (changed_at f a.vaults name) ≡ times_named blob a.vaults + gain (naming blob)
      names-grown blob = omega (arith, total-changed_at (naming blob) a.vaults name vault there f, names blob)

      pub lawful-grown : IsLawfulVault a.counter a.last (f vault) → ((blob : ℕ) → NamesNew a.counter a.vaults gain blob) → IsLawful (in_vault a a.last name f)
      lawful-grown right new = record {
        vaults = λ q. if_some-changed_at nat_list_cmp_total bytes_cmp-IsAntisymmetric (λ _. IsLawfulVault a.counter a.last) a.vaults name q f
            (λ v e. subst (λ r. IfSome r (λ v. IsLawfulVault a.counter a.last (f v))) (sym there ∙ e) right) (lawful.vaults q);
        used = refl;
        uploads = refl;
        jobs = refl;
        due = refl;
        length = refl;
        blobs = λ blob. record {
          once = omega (arith, names-grown blob, (new blob).once);
          drawn = λ high. omega (arith, names-grown blob, (lawful.blobs blob).drawn high, (new blob).drawn high);
        };
      }
