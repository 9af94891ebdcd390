-- What a lock denies.
use Rattle.std.specs.Prelude.{ℕ, ◌-◌, ◌/◌, List, Option, Some, None, Ok, Err, if◌then◌else◌}
use Rattle.std.specs.FinMap as map
use Rattle.glacier_policy.specs.Denials.{denial}
use Rattle.glacier_vault.specs.Deletions.{without_archive, deletion}
use Rattle.glacier_vault.specs.Rows.{Row, no_change, in_vault}
use Rattle.glacier_vault.specs.declared.archive.Archive.{Archive}
use Rattle.glacier_vault.specs.declared.event.Change.{Change}
use Rattle.glacier_vault.specs.declared.lock.Lock.{Lock}
use Rattle.glacier_vault.specs.declared.refusal.Refusal.{Refusal}
use Rattle.glacier_vault.specs.declared.refusal.Refusal.TheVariants.{NoVault, Denied}
use Rattle.glacier_vault.specs.declared.rules.Rules.{Rules}
use Rattle.glacier_vault.specs.declared.state.AccountState.{AccountState}
use Rattle.glacier_lock.specs.declared.denying.TheConstants.{DAY}

-- an archive's age in whole days
abbrev pub age : ℕ → Archive → ℕ
age m archive = (m - archive.created) / DAY

-- why a lock, in progress or locked, keeps an archive of the vault of a name
abbrev pub denied : Rules → List ℕ → ℕ → Option Lock → Archive → Option Refusal
denied rules name m None archive = None
denied rules name m (Some lock) archive =
    if denial lock.policy rules.region rules.account name (age m archive) then Some (Denied (age m archive)) else None

-- DELETE of an archive: one that isn't live is no concern
abbrev pub delete_archive_row : Rules → AccountState → ℕ → List ℕ → ℕ → Row Change
delete_archive_row rules account m name number = elim (map.get account.vaults name) [
  | None ↦ Err (NoVault name)
  | Some vault ↦ elim (map.get vault.archives number) [
    | None ↦ Ok (account, no_change)
    | Some archive ↦ elim (denied rules name m vault.lock archive) [
      | Some refusal ↦ Err refusal
      | None ↦ Ok (in_vault account m name (without_archive number), deletion account name number)
    ]
  ]
]
