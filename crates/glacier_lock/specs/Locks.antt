-- The rows of the operations on locks.
use Rattle.std.specs.Prelude.{ℕ, true, false, List, Option, Some, None, Result, Ok, Err, if◌then◌else◌, nat_eq}
use Rattle.std.specs.FinMap as map
use Rattle.glacier_policy.specs.Policies.{policy_of}
use Rattle.glacier_policy.specs.declared.policy.Policy.{Policy}
use Rattle.glacier_vault.specs.Rows.{Row, no_change, changed, draw_refusal, drawn, in_vault}
use Rattle.glacier_vault.specs.declared.event.Change.{Change}
use Rattle.glacier_vault.specs.declared.event.Event.TheVariants.{InitiateLock, CompleteLock, AbortLock}
use Rattle.glacier_vault.specs.declared.lock.Lock.{Lock}
use Rattle.glacier_vault.specs.declared.refusal.Refusal.{Refusal}
use Rattle.glacier_vault.specs.declared.refusal.Refusal.TheVariants.{BadPolicy, NoVault, LockPending, LockFixed, NoLock, WrongLockId}
use Rattle.glacier_vault.specs.declared.state.AccountState.{AccountState}
use Rattle.glacier_vault.specs.declared.state.VaultState.{VaultState}

abbrev pub with_lock : Option Lock → VaultState → VaultState
with_lock lock vault = record vault { lock = lock }

-- a lock in progress
abbrev pub new_lock : ℕ → ℕ → List ℕ → Policy → Lock
new_lock number m text policy = record { number = number; text = text; policy = policy; created = m; locked = false }

abbrev pub locked : Lock → Lock
locked lock = record lock { locked = true }

-- the lock of the vault of a name, if there are both
abbrev pub lock_of : AccountState → List ℕ → Option Lock
lock_of account name = elim (map.get account.vaults name) [ None ↦ None | Some vault ↦ vault.lock ]

-- why no lock is made beside the one that is there
abbrev pub lock_refusal : Option Lock → Option Refusal
lock_refusal None = None
lock_refusal (Some lock) = Some (if lock.locked then LockFixed else LockPending)

-- why no lock is made in a vault
abbrev pub initiate_refusal : AccountState → List ℕ → Option Refusal
initiate_refusal account name = elim (map.get account.vaults name) [
  | None ↦ Some (NoVault name)
  | Some vault ↦ elim (lock_refusal vault.lock) [ Some refusal ↦ Some refusal | None ↦ draw_refusal account ]
]

-- POST of a lock's policy
abbrev pub initiate_row : AccountState → ℕ → List ℕ → List ℕ → Row Change
initiate_row account m name text = elim (policy_of text) [
  | Err fault ↦ Err (BadPolicy fault)
  | Ok policy ↦ elim (initiate_refusal account name) [
    | Some refusal ↦ Err refusal
    | None ↦ Ok (in_vault (drawn account) m name (with_lock (Some (new_lock account.counter m text policy))), changed (InitiateLock name text))
  ]
]

-- the lock of the vault of a name, or why there is none
abbrev pub found_lock : AccountState → List ℕ → Result Lock Refusal
found_lock account name = elim (map.get account.vaults name) [
  | None ↦ Err (NoVault name)
  | Some vault ↦ elim vault.lock [ None ↦ Err NoLock | Some lock ↦ Ok lock ]
]

-- POST of a lock's id: the lock in progress is locked, and one that is locked with this id stays so
abbrev pub complete_row : AccountState → ℕ → List ℕ → ℕ → Row Change
complete_row account m name number = elim (found_lock account name) [
  | Err refusal ↦ Err refusal
  | Ok lock ↦
      if lock.locked then (if nat_eq lock.number number then Ok (account, no_change) else Err LockFixed)
      else if nat_eq lock.number number then Ok (in_vault account m name (with_lock (Some (locked lock))), changed (CompleteLock name))
      else Err WrongLockId
]

-- DELETE of a lock: one in progress goes
abbrev pub abort_row : AccountState → ℕ → List ℕ → Row Change
abort_row account m name = elim (map.get account.vaults name) [
  | None ↦ Err (NoVault name)
  | Some vault ↦ elim vault.lock [
    | None ↦ Ok (account, no_change)
    | Some lock ↦
        if lock.locked then Err LockFixed
        else Ok (in_vault account m name (with_lock None), changed (AbortLock name))
  ]
]
