-- Held archives: one that was deleted while a finished job named it is held, until none names it any more.
use Rattle.std.specs.Prelude.{◌≡◌, ℕ, ◌≤◌, Bool, true, false, List, Option, Some, None}
use Rattle.std.specs.FinMap as map
use Rattle.glacier_bodies.specs.Stands.{ByBlob, at_blob}
use Rattle.glacier_vault.specs.Freed.{times_in}
use Rattle.glacier_vault.specs.Named.{is_named}
use Rattle.glacier_vault.specs.declared.archive.Archive.{Archive}
use Rattle.glacier_vault.specs.declared.state.AccountState.{AccountState}
use Rattle.glacier_vault.specs.Accounts.{Accounts, account_in}

-- the archive that is held under a number in the vault of a name
abbrev pub held_archive : AccountState → List ℕ → ℕ → Option Archive
held_archive account name number = elim (map.get account.vaults name) [ None ↦ None | Some vault ↦ map.get vault.held number ]

-- whether a finished job of the vault of a name names the archive of a number
abbrev pub job_names : AccountState → List ℕ → ℕ → Bool
job_names account name number = elim (map.get account.vaults name) [ None ↦ false | Some vault ↦ is_named vault.jobs number ]

-- for each of these blobs of an account there is what there was: its bytes, or its runs
abbrev pub AreKept : {X : Type 0} → ByBlob X → ByBlob X → List ℕ → List ℕ → Type 0
AreKept old new account blobs = (blob : ℕ) → 1 ≤ times_in blob blobs → at_blob new account blob ≡ at_blob old account blob

-- each archive that was held, and that a finished job of its vault names now, is held as it was, and its blobs are kept
abbrev pub HeldStays : {X : Type 0} → Accounts → Accounts → ByBlob X → ByBlob X → Type 0
HeldStays before after old new = (account name : List ℕ) (number : ℕ) (archive : Archive)
    → held_archive (account_in before account) name number ≡ Some archive
    → job_names (account_in after account) name number ≡ true
    → (held_archive (account_in after account) name number ≡ Some archive) × AreKept old new account archive.blobs
