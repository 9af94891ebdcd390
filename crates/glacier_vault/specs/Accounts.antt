-- All accounts, and the events that change them.
use Rattle.std.specs.Prelude.{ℕ, List, IfSome, unwrap_or}
use Rattle.std.specs.Cmp.Lexicographic.{slice_cmp}
use Rattle.std.specs.FinMap as map
use Rattle.std.specs.Ordering.{nat_cmp}
use Rattle.glacier_vault.specs.Account.{empty_account}
use Rattle.glacier_vault.specs.Lawful.{IsLawful}
use Rattle.glacier_vault.specs.declared.event.Event.{Event}
use Rattle.glacier_vault.specs.declared.state.AccountState.{AccountState}

-- the state of each account that was ever changed
abbrev pub Accounts : Type 0
Accounts = map.FinMap (slice_cmp nat_cmp) AccountState

-- the state of an account, which is empty where it was never changed
abbrev pub account_in : Accounts → List ℕ → AccountState
account_in accounts account = unwrap_or (map.get accounts account) empty_account

-- each of them is lawful
abbrev pub AllLawful : Accounts → Type 0
AllLawful accounts = (account : List ℕ) → IfSome (map.get accounts account) IsLawful

-- an event of an account at a moment, with the bytes of the body that came with it, which are none where it has no body
pub record AccountEvent : Type 0 where
  pub account : List ℕ
  pub moment : ℕ
  pub event : Event
  pub body : List ℕ
