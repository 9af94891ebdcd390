use Rattle.std.proofs.Common.{◌≡◌, ◌≤◌, ◌<◌, ℕ, get_or, length}
use Rattle.std.specs.Prelude.{bit_xor}
use Rattle.glacier_hmac.proofs.block.xor_with.Given as goal

abbrev pub invariant-loop-i : goal.invariant-loop-i
invariant-loop-i l = record {
  done : (k : ℕ) → k < l.i → get_or l.bytes k 0 ≡ bit_xor (get_or l.block k 0) l.byte;
  rest : (k : ℕ) → l.i ≤ k → get_or l.bytes k 0 ≡ get_or l.block k 0;
  size : length l.bytes ≡ 64;
  block_size : length l.block ≡ 64;
}
