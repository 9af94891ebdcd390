-- What the deletion of a vault does, in words that the row doesn't share.
use Rattle.std.specs.Prelude.{◌≡◌, ◌≢◌, ◌+◌, ℕ, List, Err, IsOk}
use Rattle.std.specs.FinMap as map
use Rattle.glacier_vault.specs.Deletions.{delete_row}
use Rattle.glacier_vault.specs.Rows.{state_after, found}
use Rattle.glacier_vault.specs.declared.refusal.Refusal.TheVariants.{NoVault}
use Rattle.glacier_vault.specs.declared.state.AccountState.{AccountState}

-- the account as a deletion at the moment m leaves it
abbrev pub after_delete : AccountState → ℕ → List ℕ → AccountState
after_delete before m name = state_after before (delete_row before m name)

-- the vault was there and isn't, and all else is as before
pub record Deletes (before after : AccountState) (m : ℕ) (name : List ℕ) : Type 0 where
  pub was : IsOk (found before name)
  pub gone : found after name ≡ Err (NoVault name)
  pub others : (other : List ℕ) → other ≢ name → found after other ≡ found before other
  pub one_less : map.len after.vaults + 1 ≡ map.len before.vaults
  pub last : after.last ≡ m
  pub counter : after.counter ≡ before.counter
