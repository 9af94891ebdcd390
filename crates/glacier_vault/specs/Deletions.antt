-- The rows of deletions: of a vault, and of an archive.
use Rattle.std.specs.Prelude.{ℕ, Bool, false, ◌||◌, List, [], is_none, Option, Some, None, Ok, Err, if◌then◌else◌, nat_le}
use Rattle.std.specs.FinMap as map
use Rattle.glacier_vault.specs.Lengths.{archive_length}
use Rattle.glacier_vault.specs.Named.{is_named, blobs_of}
use Rattle.glacier_vault.specs.Rows.{Row, no_change, changed_freeing, with_vaults, with_archives}
use Rattle.glacier_vault.specs.Totals.{need}
use Rattle.glacier_vault.specs.declared.archive.Archive.{Archive}
use Rattle.glacier_vault.specs.declared.event.Change.{Change}
use Rattle.glacier_vault.specs.declared.event.Event.TheVariants.{DeleteVault, DeleteArchive}
use Rattle.glacier_vault.specs.declared.lock.Lock.{Lock}
use Rattle.glacier_vault.specs.declared.refusal.Refusal.{Refusal}
use Rattle.glacier_vault.specs.declared.refusal.Refusal.TheVariants.{VaultNotEmpty, VaultLocked}
use Rattle.glacier_vault.specs.declared.state.AccountState.{AccountState}
use Rattle.glacier_vault.specs.declared.state.VaultState.{VaultState}

-- a live archive or an open upload keeps a vault from being deleted
abbrev pub has_content : VaultState → Bool
has_content vault = nat_le 1 (map.len vault.archives) || nat_le 1 (map.len vault.uploads)

abbrev pub is_locked : Option Lock → Bool
is_locked None = false
is_locked (Some lock) = lock.locked

-- why a vault isn't deleted
abbrev pub deletion_refusal : VaultState → Option Refusal
deletion_refusal vault =
    if has_content vault then Some VaultNotEmpty
    else if is_locked vault.lock then Some VaultLocked
    else None

-- DELETE of a vault: it goes with its jobs, its held archives, its finished uploads and a lock in progress
abbrev pub delete_row : AccountState → ℕ → List ℕ → Row Change
delete_row account m name = elim (map.get account.vaults name) [
  | None ↦ Ok (account, no_change)
  | Some vault ↦ elim (deletion_refusal vault) [
    | Some refusal ↦ Err refusal
    | None ↦ Ok (
      with_vaults account m (map.remove account.vaults name),
      changed_freeing (DeleteVault name) (blobs_of (map.values vault.held)),
    )
  ]
]

-- whether the vault of a name is there and may be deleted
abbrev pub may_go : AccountState → List ℕ → Bool
may_go account name = elim (map.get account.vaults name) [ None ↦ false | Some vault ↦ is_none (deletion_refusal vault) ]

-- the blobs of the held archives in the vault of a name
abbrev pub held_blobs : AccountState → List ℕ → List ℕ
held_blobs account name = elim (map.get account.vaults name) [ None ↦ [] | Some vault ↦ blobs_of (map.values vault.held) ]

-- the vault after its live archive of a number was deleted: one that a finished job names becomes held
abbrev pub without_archive : ℕ → VaultState → VaultState
without_archive number vault = record (with_archives vault (map.remove vault.archives number)) {
  held = if is_named vault.jobs number then (elim (map.get vault.archives number) [ None ↦ vault.held | Some archive ↦ map.insert vault.held number archive ]) else vault.held;
}

-- the blobs that this frees
abbrev pub freed_by_deletion : ℕ → VaultState → List ℕ
freed_by_deletion number vault =
    if is_named vault.jobs number then []
    else (elim (map.get vault.archives number) [ None ↦ [] | Some archive ↦ archive.blobs ])

-- how many blocks it gives back
abbrev pub room_freed : ℕ → VaultState → ℕ
room_freed number vault =
    if is_named vault.jobs number then 0
    else (elim (map.get vault.archives number) [ None ↦ 0 | Some archive ↦ need archive.size ])

-- how many bytes less its snapshot takes, where the vault's name has n bytes
abbrev pub length_freed : ℕ → ℕ → VaultState → ℕ
length_freed n number vault =
    if is_named vault.jobs number then 0
    else (elim (map.get vault.archives number) [ None ↦ 0 | Some archive ↦ archive_length n archive ])

-- the live archive of a number in the vault of a name
abbrev pub live_archive : AccountState → List ℕ → ℕ → Option Archive
live_archive account name number = elim (map.get account.vaults name) [ None ↦ None | Some vault ↦ map.get vault.archives number ]

-- DELETE of an archive that is live and that no lock keeps
abbrev pub deletion : AccountState → List ℕ → ℕ → Change
deletion account name number = elim (map.get account.vaults name) [
  | None ↦ no_change
  | Some vault ↦ changed_freeing (DeleteArchive name number) (freed_by_deletion number vault)
]
