-- What an event frees.
use Rattle.std.specs.Prelude.{◌≡◌, ℕ, Bool, not, ◌&&◌, List, if◌then◌else◌, nat_le}
use Rattle.glacier_vault.specs.Freed.{times_in}
use Rattle.glacier_vault.specs.Totals.{times_named}
use Rattle.glacier_vault.specs.declared.state.AccountState.{AccountState}

-- whether an account names a blob
abbrev pub names_blob : AccountState → ℕ → Bool
names_blob account blob = nat_le 1 (times_named blob account.vaults)

-- each blob that the account named before and doesn't name after is freed once, and no other blob is freed
abbrev pub FreesExactly : AccountState → AccountState → List ℕ → Type 0
FreesExactly before after freed =
    (blob : ℕ) → times_in blob freed ≡ (if names_blob before blob && not (names_blob after blob) then 1 else 0)
