-- The next bytes of an input of which some were taken.
use Rattle.std.proofs.Common.{◌≡◌, ◌∙◌, sym, ℕ, ◌+◌, min, List, ◌++◌, length, take, drop, arith}
use Rattle.std.proofs.lemmas.List.{same_lists, places, length-take}
use Rattle.glacier_disk.specs.declared.mem_connection.MemConnection.{MemConnection}
use Rattle.glacier_disk.specs.MemConnections.{connection_of}
use Rattle.glacier_disk.specs.Network.{wait_of}

module _ (xs : List ℕ) (taken start n : ℕ) (is : start ≡ min taken (length xs)) where
  pub coming-next : drop taken xs ≡ take n (drop start xs) ++ drop (start + n) xs
  coming-next = same_lists _ _ (grind (arith, places, is)) (λ k d h. grind (arith, places, is))

  pub taken-next : take (start + n) xs ≡ take taken xs ++ take n (drop start xs)
  taken-next = same_lists _ _ (grind (arith, places, is)) (λ k d h. grind (arith, places, is))

-- what a receive on a connection waits behind
pub wait-is : (connection : MemConnection) (taken sent : ℕ)
    → taken ≡ min connection.taken (length connection.input) → sent ≡ length connection.sent.items
    → wait_of (connection_of connection) ≡ record { taken = taken; sent = sent }
wait-is connection taken sent before same =
    let as_taken = length-take connection.taken connection.input ∙ sym before in
    λ k. record { taken = as_taken k; sent = sym same k }
