-- What time does to an account before a request at a moment is done.
use Rattle.std.specs.Prelude.{ℕ, if◌then◌else◌}
use Rattle.glacier_job.specs.Pass.{pass, pass_change, pass_is_event}
use Rattle.glacier_vault.specs.Rows.{no_change}
use Rattle.glacier_vault.specs.declared.event.Change.{Change}
use Rattle.glacier_vault.specs.declared.state.AccountState.{AccountState}

-- the account that a request at the moment m is done on: time that settles and ends nothing leaves it as it is
abbrev pub after_moment : ℕ → AccountState → AccountState
after_moment m account = if pass_is_event m account then pass m account else account

-- what that changes
abbrev pub moment_change : ℕ → AccountState → Change
moment_change m account = if pass_is_event m account then pass_change m account else no_change
