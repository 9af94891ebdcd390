-- How many connections came, whatever the disk holds.
use Rattle.std.proofs.Common.{◌≡◌, ℕ, ◌+◌, ◌<◌, ◌≤◌, arith}
use Rattle.glacier_disk.specs.Told.{Told}
use Rattle.glacier_server.specs.Serving.{Came}

-- one came, and no other while it was served
pub came_one : {old new : Told} (mid : ℕ) → mid + 1 ≡ old.listener.to_come → new.listener.to_come ≡ mid → Came old new 1 1
came_one mid fewer same = record { left = omega (arith, fewer, same); fewer = λ less. absurd (omega (arith, less)) }

-- none is left to come
pub came_none : {old new : Told} → old.listener.to_come ≡ 0 → new.listener.to_come ≡ 0 → Came old new 1 0
came_none before after = record { left = omega (arith, before, after); fewer = λ less. after }

-- one came behind some others
pub one_more_came : {mid new : Told} (old count : ℕ) → old ≡ count + mid.listener.to_come → Came mid new 1 1
    → old ≡ (count + 1) + new.listener.to_come
one_more_came old count before one = let left = one.left in omega (arith, before, left)

-- none came behind them
pub last_came : {old mid new : Told} {count most : ℕ} → old.listener.to_come ≡ count + mid.listener.to_come → Came mid new 1 0
    → Came old new most count
last_came before none = let left = none.left in record {
  left = omega (arith, before, left);
  fewer = λ less. none.fewer (omega arith);
}

-- one at most came behind them before a fault
pub few_came : (old mid new count most : ℕ) → old ≡ count + mid → count < most → mid ≤ 1 + new → old ≤ most + new
few_came old mid new count most before less few = omega (arith, before, less, few)
