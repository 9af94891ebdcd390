-- What an event frees, by what its account names before and after it.
use Rattle.std.specs.Prelude.{◌≡◌, ℕ, ◌-◌, ◌≤◌, Bool, true, false, cond, not, ◌&&◌, List, Some, nat_le}
use Rattle.std.proofs.Common.{refl, arith}
use Rattle.std.proofs.lemmas.Bool.Decides.{nat_tests}
use Rattle.glacier_vault.specs.Freed.{FreesJust}
use Rattle.glacier_vault.specs.Lawful.{IsLawful}
use Rattle.glacier_vault.specs.Totals.{times_named}
use Rattle.glacier_vault.specs.declared.event.Event.{Event}
use Rattle.glacier_vault.specs.declared.state.AccountState.{AccountState}
use Rattle.glacier_vault.specs.Accounts.{Accounts, account_in}
use Rattle.glacier_replay.specs.Changes.{change_in}
use Rattle.glacier_replay.specs.Freed.{FreesExactly}
use Rattle.glacier_replay.proofs.CounterLemmas.{of_replayed}
use Rattle.glacier_replay.proofs.FreesLemmas.{frees}

-- what was named once at most is named less where it isn't named any more
less : (before after : ℕ) → before ≤ 1 → (b c : Bool) → nat_le 1 before ≡ b → nat_le 1 after ≡ c → before - after ≡ cond {A = ℕ} (b && not c) 1 0
less before after once true true t u = grind (arith, nat_tests)
less before after once true false t u = grind (arith, nat_tests)
less before after once false c t u = grind (arith, nat_tests)

module _ (accounts : Accounts) (account : List ℕ) (m : ℕ) (event : Event) (after : AccountState) (freed : List ℕ) (lawful : IsLawful (account_in accounts account))
    (done_is : change_in accounts account m event ≡ Some (after, freed)) where
  abbrev before : AccountState
  before = account_in accounts account

  pub frees_just : FreesJust before after freed
  frees_just = (frees before m lawful (after, freed) event (of_replayed before m event (after, freed) done_is).1).just

  pub frees_exactly : FreesExactly before after freed
  frees_exactly blob = omega (arith, frees_just blob, less (times_named blob before.vaults) (times_named blob after.vaults) (lawful.blobs blob).once (nat_le 1 (times_named blob before.vaults)) (nat_le 1 (times_named blob after.vaults)) refl refl)
