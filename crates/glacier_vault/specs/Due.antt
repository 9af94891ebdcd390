-- From which moment on a pass changes something.
use Rattle.std.specs.Prelude.{ℕ, ◌+◌, Bool, false, not, List, [], ◌∷◌, Option, Some, None, if◌then◌else◌, nat_le}
use Rattle.std.specs.FinMap as map
use Rattle.std.specs.List.{list_any}
use Rattle.glacier_vault.specs.Named.{is_named, is_waiting}
use Rattle.glacier_vault.specs.Totals.{Vaults}
use Rattle.glacier_vault.specs.declared.archive.Finished.{Finished}
use Rattle.glacier_vault.specs.declared.due.TheConstants.{DAY}
use Rattle.glacier_vault.specs.declared.job.Job.{Job}
use Rattle.glacier_vault.specs.declared.lock.Lock.{Lock}
use Rattle.glacier_vault.specs.declared.state.VaultState.{VaultState}

-- the sooner of two moments, where None never comes
abbrev pub sooner : Option ℕ → Option ℕ → Option ℕ
sooner None b = b
sooner (Some a) None = Some a
sooner (Some a) (Some b) = Some (if nat_le a b then a else b)

-- the soonest of what f gives
abbrev pub soonest : {X : Type 0} → (X → Option ℕ) → List X → Option ℕ
soonest f [] = None
soonest f (x ∷ xs) = sooner (f x) (soonest f xs)

-- whether it has come at the moment m
abbrev pub has_come : ℕ → Option ℕ → Bool
has_come m None = false
has_come m (Some due) = nat_le due m

-- a job that waits is settled when it is ready, and one that is settled ends a day after that
abbrev pub job_due : Job → Option ℕ
job_due job = Some (if is_waiting job.stage then job.ready else job.ready + DAY)

-- a finished upload ends a day after it was completed
abbrev pub finished_due : Finished → Option ℕ
finished_due upload = Some (upload.at + DAY)

-- a lock in progress ends a day after it was made
abbrev pub lock_due : Option Lock → Option ℕ
lock_due None = None
lock_due (Some lock) = if lock.locked then None else Some (lock.created + DAY)

-- a held archive that no finished job names goes at once
abbrev pub held_due : VaultState → Option ℕ
held_due vault = if list_any (λ number. not (is_named vault.jobs number)) (map.keys vault.held) then Some 0 else None

-- what a vault holds but for its lock
abbrev pub content_due : VaultState → Option ℕ
content_due vault =
    sooner (soonest job_due (map.values vault.jobs))
    (sooner (soonest finished_due (map.values vault.finished)) (held_due vault))

-- a vault by the moment that is kept, and its lock
abbrev pub vault_due : VaultState → Option ℕ
vault_due vault = sooner vault.due (lock_due vault.lock)

-- an account of these vaults
abbrev pub due_in : Vaults → Option ℕ
due_in vaults = soonest vault_due (map.values vaults)
