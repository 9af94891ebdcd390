-- The nodes of the tree over n bytes, as stretches of bytes.
use Rattle.std.specs.Prelude.{ℕ, zero, suc, ◌-◌, ◌*◌, ◌/◌, ◌%◌, ◌≤◌, Bool, ◌&&◌, ◌||◌, List, Option, Some, None, if◌then◌else◌, nat_eq, nat_lt, nat_le, slice_range}
use Rattle.std.specs.Int.{div_ceil}
use Rattle.glacier_treehash.specs.Roots.{root_of_digests}
use Rattle.glacier_treehash.specs.Tree.{mib, IsSplit}

-- the bytes from a to before z are a node: the root, or a node of the part before or behind the cut
pub data IsNode : ℕ → ℕ → ℕ → Type 0 where
  whole : {n : ℕ} → 1 ≤ n → IsNode n 0 n
  before : {n a z : ℕ} (p : ℕ) → IsSplit mib n p → z ≤ p → IsNode p a z → IsNode n a z
  behind : {n a z : ℕ} (p : ℕ) → IsSplit mib n p → p ≤ a → IsNode (n - p) (a - p) (z - p) → IsNode n a z

-- the first of width, 2 * width, 4 * width .. that is as great as n, within so many steps
unfoldable pub doubled_to : ℕ → ℕ → ℕ → ℕ
doubled_to zero width n = width
doubled_to (suc steps) width n = if nat_le n width then width else doubled_to steps (width * 2) n

-- the least power of two that is as great as n
unfoldable pub least_power : ℕ → ℕ
least_power n = doubled_to n 1 n

-- whether the bytes are a node: so many leaves as the least power of two that holds them, or what is left of as many at
-- the end, from a multiple of that power on
unfoldable pub is_node_of : ℕ → ℕ → ℕ → Bool
is_node_of size first end =
    let width : ℕ = least_power (div_ceil (end - first) mib) in
    nat_lt first end && nat_le end size
    && nat_eq (first % mib) 0 && nat_eq (first / mib % width) 0
    && (nat_eq end size || nat_eq ((end - first) / mib) width)

-- the tree hash of a range, of an archive's leaves: None where it is no node
abbrev pub range_root : List (List ℕ) → ℕ → ℕ → ℕ → Option (List ℕ)
range_root leaves size first end =
    if is_node_of size first end then Some (root_of_digests (slice_range leaves (first / mib) (div_ceil end mib))) else None
