-- Which blocks are in use, and how many accounts may use.
use Rattle.std.specs.Prelude.{◌≡◌, ℕ, ◌≤◌, ◌&&◌, not, List, [], ◌∷◌, bytes_eq, if◌then◌else◌, sum_by}
use Rattle.std.specs.FinMap as map
use Rattle.std.specs.Ordering.{nat_cmp}
use Rattle.glacier_bodies.specs.Stands.{Layouts}
use Rattle.glacier_extents.specs.declared.run.Run.{Run}
use Rattle.glacier_extents.specs.Runs.{has_block, block_count}
use Rattle.glacier_journal.specs.Listed.{Payloads}
use Rattle.glacier_vault.specs.Accounts.{Accounts, account_in}
use Rattle.glacier_replay.specs.Made.{IsRest, Makes}

-- how many blocks the blobs of an account have
abbrev pub blob_blocks : map.FinMap nat_cmp (List Run) → ℕ
blob_blocks blobs = sum_by block_count (map.values blobs)

-- and those of all accounts
abbrev pub layout_blocks : Layouts → ℕ
layout_blocks layouts = sum_by blob_blocks (map.values layouts)

-- how many blocks all accounts use
abbrev pub used_by_all : Accounts → ℕ
used_by_all accounts = sum_by (λ account. account.used) (map.values accounts)

-- payloads make these accounts and these runs of each blob, and all other blocks are free but for some own, as those of bodies
-- that are open
pub record IsAreaOf (payloads : Payloads) (accounts : Accounts) (layouts : Layouts) (own free : List Run) : Type 0 where
  pub made : Makes payloads accounts layouts
  -- the free blocks with the own ones
  pub whole : List Run
  pub rest : IsRest whole layouts
  pub taken : (b : ℕ) → has_block free b ≡ (has_block whole b && not (has_block own b))

-- accounts with the blocks that each may use
abbrev pub Quotas : Type 0
Quotas = List (List ℕ × ℕ)

-- how many blocks an account may use: none where it isn't named
abbrev pub quota_in : Quotas → List ℕ → ℕ
quota_in [] account = 0
quota_in (entry ∷ entries) account = if bytes_eq entry.0 account then entry.1 else quota_in entries account

-- how many all may use together
abbrev pub quotas_total : Quotas → ℕ
quotas_total quotas = sum_by (λ entry. entry.1) quotas

-- no account uses more than it may
abbrev pub AreWithin : Quotas → Accounts → Type 0
AreWithin quotas accounts = (account : List ℕ) → (account_in accounts account).used ≤ quota_in quotas account
