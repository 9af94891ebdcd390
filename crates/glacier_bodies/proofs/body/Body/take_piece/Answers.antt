use Rattle.std.proofs.Common.{◌≡◌, ◌+◌, ◌/◌, ◌≤◌, ◌++◌, ℕ, List, length, take, drop, refl, ◌∙◌, ap, arith}
use Rattle.std.specs.Int.{div_ceil}
use Rattle.std.proofs.lemmas.List.{with_items_is}
use Rattle.glacier_treehash.specs.Leaves.{leaves_of}
use Rattle.glacier_extents.specs.Places.{block_size}
use Rattle.glacier_bodies.proofs.TakeLemmas.{has_more}
use Rattle.glacier_bodies.proofs.body.Body.take_piece.Goals as goal

pub returns-clause-taken : goal.returns-clause-taken
returns-clause-taken g c =
    let old = c.args.self.now in
    let bytes = c.args.bytes.now in
    let first = old.taken / block_size in
    let n = div_ceil (length bytes) block_size in
    let was = c.deref_mut.ensures.value in
    let long = ap length was in
    let room : first + n ≤ length old.leaves.items = omega (arith, long, c.deref_mut.ensures.len, c.requires.whole, c.requires.room, old.room) in
    let size : length c.hash_at.new.leaves ≡ old.leaves.len = omega (arith, c.hash_at.auto.leaves, c.deref_mut.ensures.len) in
    let leaves = with_items_is old.leaves c.hash_at.new.leaves size ∙ c.hash_at.ensures.leaves
    ∙ ap (λ (ls : List (List ℕ)). take first ls ++ leaves_of bytes ++ drop (first + n) ls) was in
    record {
      taken = λ message has. has_more old _ message bytes has c.requires.whole c.requires.some refl c.hash_at.ensures.linear room leaves;
      count = refl;
    }
