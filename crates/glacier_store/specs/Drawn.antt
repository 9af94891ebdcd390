-- The numbers of blobs.
use Rattle.std.specs.Prelude.{◌≡◌, ◌<◌, ℕ, List, Some}
use Rattle.glacier_bodies.specs.Stands.{Layouts, at_blob}
use Rattle.glacier_extents.specs.declared.run.Run.{Run}
use Rattle.glacier_vault.specs.Accounts.{Accounts, account_in}

-- each blob has a number that its account drew
abbrev pub AreDrawn : Accounts → Layouts → Type 0
AreDrawn accounts layouts = (account : List ℕ) (number : ℕ) (runs : List Run) → at_blob layouts account number ≡ Some runs
    → number < (account_in accounts account).counter
