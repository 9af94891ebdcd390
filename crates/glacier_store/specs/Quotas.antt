-- Which account uses more than its quota.
use Rattle.std.specs.Prelude.{ℕ, Bool, nat_lt, List, [], ◌∷◌, Option, Some, None, if◌then◌else◌}
use Rattle.std.specs.FinMap as map
use Rattle.glacier_sigv4.specs.Rings.{quota_at}
use Rattle.glacier_sigv4.specs.declared.ring.Entry.{Entry}
use Rattle.glacier_vault.specs.Accounts.{Accounts}
use Rattle.glacier_vault.specs.declared.state.AccountState.{AccountState}
use Rattle.glacier_store.specs.declared.quotas.OverQuota.{OverQuota}

-- what an account uses of its quota in a ring, which is 0 for a stranger
abbrev pub use_of : List Entry → List ℕ × AccountState → OverQuota
use_of ring entry = record { account = entry.0; used = entry.1.used; quota = quota_at ring entry.0 }

-- whether it uses more
abbrev pub is_over : OverQuota → Bool
is_over its = nat_lt its.quota its.used

-- the first of some accounts that uses more
abbrev pub first_over_in : List Entry → List (List ℕ × AccountState) → Option OverQuota
first_over_in ring [] = None
first_over_in ring (entry ∷ more) = if is_over (use_of ring entry) then Some (use_of ring entry) else first_over_in ring more

-- the first of all accounts, in their order, that uses more than its quota
abbrev pub over_quota : List Entry → Accounts → Option OverQuota
over_quota ring accounts = first_over_in ring (map.entries accounts)
