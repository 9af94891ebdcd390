-- The deletion of an archive that a lock denies.
use Rattle.std.specs.Prelude.{◌≡◌, ℕ, cond, List, Option, Some, None, Ok, Err}
use Rattle.std.specs.FinMap as map
use Rattle.std.proofs.Common.{◌∙◌, ap}
use Rattle.glacier_policy.specs.Meaning.{Denies}
use Rattle.glacier_policy.proofs.DenialLemmas.{denial-Denies}
use Rattle.glacier_vault.specs.Deletions.{without_archive, deletion}
use Rattle.glacier_vault.specs.Rows.{Row, no_change, in_vault}
use Rattle.glacier_vault.specs.declared.archive.Archive.{Archive}
use Rattle.glacier_vault.specs.declared.event.Change.{Change}
use Rattle.glacier_vault.specs.declared.lock.Lock.{Lock}
use Rattle.glacier_vault.specs.declared.refusal.Refusal.{Refusal}
use Rattle.glacier_vault.specs.declared.refusal.Refusal.TheVariants.{NoVault, Denied}
use Rattle.glacier_vault.specs.declared.rules.Rules.{Rules}
use Rattle.glacier_vault.specs.declared.state.AccountState.{AccountState}
use Rattle.glacier_vault.specs.declared.state.VaultState.{VaultState}
use Rattle.glacier_lock.specs.Denied.{age, denied, delete_archive_row}

module _ (rules : Rules) (a : AccountState) (m : ℕ) (name : List ℕ) (number : ℕ) where
  abbrev by_refusal : Option Refusal → Row Change
  by_refusal r = elim r [
    | Some refusal ↦ Err refusal
    | None ↦ Ok (in_vault a m name (without_archive number), deletion a name number)
  ]

  abbrev by_archive : Option Lock → Option Archive → Row Change
  by_archive lock r = elim r [ None ↦ Ok (a, no_change) | Some archive ↦ by_refusal (denied rules name m lock archive) ]

  abbrev by_vault : Option VaultState → Row Change
  by_vault r = elim r [ None ↦ Err (NoVault name) | Some vault ↦ by_archive vault.lock (map.get vault.archives number) ]

  pub denied-refused : (vault : VaultState) (archive : Archive) (lock : Lock) → map.get a.vaults name ≡ Some vault → map.get vault.archives number ≡ Some archive → vault.lock ≡ Some lock
      → Denies lock.policy rules.region rules.account name (age m archive) → delete_archive_row rules a m name number ≡ Err (Denied (age m archive))
  denied-refused vault archive lock there live is denies =
      ap by_vault there
      ∙ ap (by_archive vault.lock) live
      ∙ ap (λ l. by_refusal (denied rules name m l archive)) is
      ∙ ap (λ b. by_refusal (cond b (Some (Denied (age m archive))) None)) ((denial-Denies lock.policy rules.region rules.account name (age m archive)).1 denies)
