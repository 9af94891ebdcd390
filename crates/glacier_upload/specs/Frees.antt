-- Rows that free nothing.
use Rattle.std.specs.Prelude.{◌≡◌, ◌≤◌, ℕ, [], Ok, Err}
use Rattle.glacier_vault.specs.Freed.{freed_of}
use Rattle.glacier_vault.specs.Rows.{Row, state_after}
use Rattle.glacier_vault.specs.Totals.{times_named}
use Rattle.glacier_vault.specs.declared.event.Change.{Change}
use Rattle.glacier_vault.specs.declared.state.AccountState.{AccountState}

-- a row hands out no blob, and each is named as often as before at least
pub record FreesNothing (before : AccountState) (row : Row Change) : Type 0 where
  pub none : freed_of row ≡ []
  pub named : (blob : ℕ) → times_named blob before.vaults ≤ times_named blob (state_after before row).vaults

-- the change of a row that hands out a number besides
abbrev pub change_of : Row (ℕ × Change) → Row Change
change_of (Ok p) = Ok (p.0, p.1.1)
change_of (Err refusal) = Err refusal
