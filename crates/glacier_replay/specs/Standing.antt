-- What an image stands for: all accounts, with the whole bytes of each blob.
use Rattle.std.specs.Prelude.{◌≡◌, ◌⊎◌, ℕ, ◌%◌, ◌≤◌, List, [], ◌∷◌, Some, is_some, IfSome, length}
use Rattle.std.specs.FinMap as map
use Rattle.glacier_bodies.specs.BlobAreas.{bytes_of}
use Rattle.glacier_bodies.specs.Stands.{Bodies, Layouts, AllHeld, at_blob}
use Rattle.glacier_disk.specs.declared.area.Area.{Area}
use Rattle.glacier_disk.specs.declared.area.Area.TheVariants.{Blobs}
use Rattle.glacier_disk.specs.Image.{Image}
use Rattle.glacier_extents.specs.declared.run.Run.{Run}
use Rattle.glacier_extents.specs.Runs.{block_count}
use Rattle.glacier_journal.specs.Listed.{Payloads, Listed}
use Rattle.glacier_treehash.specs.Leaves.{leaves_of}
use Rattle.glacier_treehash.specs.Tree.{mib}
use Rattle.glacier_vault.specs.Totals.{need, times_named}
use Rattle.glacier_vault.specs.declared.state.AccountState.{AccountState}
use Rattle.glacier_vault.specs.declared.state.VaultState.{VaultState}
use Rattle.glacier_vault.specs.Accounts.{Accounts, account_in}
use Rattle.glacier_replay.specs.Changes.{State}
use Rattle.glacier_replay.specs.Made.{Makes}

-- these blobs of an account are there, and each but the last ends with a whole MiB
abbrev pub AreThere : Bodies → List ℕ → List ℕ → Type 0
AreThere bodies account [] = Unit {0}
AreThere bodies account (number ∷ numbers) =
    ((bytes : List ℕ) × (at_blob bodies account number ≡ Some bytes) × ((numbers ≡ []) ⊎ (length bytes % mib ≡ 0)))
    × AreThere bodies account numbers

-- a body of this size and of these leaves is what these blobs hold, one after another
pub record IsTold (bodies : Bodies) (account : List ℕ) (size : ℕ) (leaves : List (List ℕ)) (blobs : List ℕ) : Type 0 where
  pub there : AreThere bodies account blobs
  pub size_is : size ≡ length (bytes_of bodies account blobs)
  pub leaves_are : leaves ≡ leaves_of (bytes_of bodies account blobs)

-- what holds of each body of a vault, of its size, its leaves and its blobs: of each live and held archive and of each part
pub record InVault (P : ℕ → List (List ℕ) → List ℕ → Type 0) (vault : VaultState) : Type 0 where
  pub archives : (n : ℕ) → IfSome (map.get vault.archives n) (λ archive. P archive.size archive.leaves archive.blobs)
  pub held : (n : ℕ) → IfSome (map.get vault.held n) (λ archive. P archive.size archive.leaves archive.blobs)
  pub parts : (n : ℕ) → IfSome (map.get vault.uploads n) (λ upload. (index : ℕ) → IfSome (map.get upload.parts index) (λ part. P part.size part.leaves (part.blob ∷ [])))

-- and of each body of an account
abbrev pub InAccount : (ℕ → List (List ℕ) → List ℕ → Type 0) → AccountState → Type 0
InAccount P account = (name : List ℕ) → IfSome (map.get account.vaults name) (InVault P)

-- The accounts tell the bytes of their blobs: each live and held archive and each part has the size and the leaves of the
-- bytes that its blobs hold, and there is no other blob.
pub record Tells (accounts : Accounts) (bodies : Bodies) : Type 0 where
  pub told : (account : List ℕ) → InAccount (IsTold bodies account) (account_in accounts account)
  pub no_other : (account : List ℕ) (number : ℕ) (bytes : List ℕ) → at_blob bodies account number ≡ Some bytes
      → 1 ≤ times_named number (account_in accounts account).vaults

-- the same blobs have runs and bytes, and each has as many blocks as its bytes take
pub record Matches (layouts : Layouts) (bodies : Bodies) : Type 0 where
  pub accounts : (account : List ℕ) → map.contains_key layouts account ≡ map.contains_key bodies account
  pub blobs : (account : List ℕ) (number : ℕ) → is_some (at_blob layouts account number) ≡ is_some (at_blob bodies account number)
  pub counts : (account : List ℕ) (number : ℕ) (runs : List Run) (bytes : List ℕ) → at_blob layouts account number ≡ Some runs
      → at_blob bodies account number ≡ Some bytes → block_count runs ≡ need (length bytes)

-- payloads that make these runs, and bytes that lie in them, are those of a state
pub record IsStateOf (payloads : Payloads) (layouts : Layouts) (content : List ℕ) (state : State) : Type 0 where
  pub made : Makes payloads state.accounts layouts
  pub matches : Matches layouts state.bodies
  pub held : AllHeld layouts state.bodies content
  pub tells : Tells state.accounts state.bodies

-- an image stands for a state: it lists payloads that make its accounts and the runs of its blobs, and their bytes lie there
pub record Stands (image : Image) (state : State) : Type 0 where
  pub area : Area
  pub payloads : Payloads
  pub end : ℕ
  pub layouts : Layouts
  pub listed : Listed image area payloads end
  pub state_is : IsStateOf payloads layouts (image Blobs) state
