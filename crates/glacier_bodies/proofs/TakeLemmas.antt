-- A piece that a body takes behind whole blocks.
use Rattle.std.proofs.Common.{◌≡◌, ℕ, ◌+◌, ◌*◌, ◌/◌, ◌%◌, ◌<◌, ◌≤◌, List, ◌++◌, length, take, drop, refl, sym, ◌∙◌, ap, ap₂, arith}
use Rattle.std.specs.Int.{div_ceil}
use Rattle.std.proofs.lemmas.List.{take_at, drop_at, length-append, length-take-le, take_all}
use Rattle.glacier_treehash.specs.Leaves.{leaves_from, leaves_of, leaf_count}
use Rattle.glacier_treehash.specs.Linear.{Feeds}
use Rattle.glacier_treehash.proofs.LeavesLemmas.{digests-add, digests-take, length-digests}
use Rattle.glacier_extents.specs.Places.{block_size}
use Rattle.glacier_bodies.specs.declared.body.Body.{Body}
use Rattle.glacier_bodies.specs.Bodies.{HasTaken}

-- the leaves of whole blocks and of a piece behind them
leaves_behind : (first : ℕ) (message piece : List ℕ) → length message ≡ first * block_size → 0 < length piece
    → leaves_from (first + div_ceil (length piece) block_size) (message ++ piece) ≡ leaves_from first message ++ leaves_of piece
leaves_behind first message piece long some =
    let n : ℕ = div_ceil (length piece) block_size in
    let whole : take (first * block_size) (message ++ piece) ≡ message = take_at message piece (first * block_size) long in
    let rest : drop (first * block_size) (message ++ piece) ≡ piece = drop_at message piece (first * block_size) long in
    let front : leaves_from first (message ++ piece) ≡ leaves_from first message =
    sym (digests-take block_size first (message ++ piece)) ∙ ap (leaves_from first) whole in
    let count : n ≡ leaf_count (length piece) = omega (arith, some) in
    digests-add block_size first n (first + n) (message ++ piece) refl
    ∙ ap₂ (λ (xs ys : List (List ℕ)). xs ++ ys) front (ap (leaves_from n) rest ∙ ap (λ m. leaves_from m piece) count)

pub has_more : (old new : Body) (message piece : List ℕ) → HasTaken old message → old.taken % block_size ≡ 0
    → 0 < length piece
    → new.taken ≡ old.taken + length piece → Feeds old.linear new.linear piece
    → old.taken / block_size + div_ceil (length piece) block_size ≤ length old.leaves.items
    → new.leaves.items ≡ take (old.taken / block_size) old.leaves.items ++ leaves_of piece ++ drop (old.taken / block_size + div_ceil (length piece) block_size) old.leaves.items
    → HasTaken new (message ++ piece)
has_more old new message piece has whole some taken fed room leaves =
    let first : ℕ = old.taken / block_size in
    let n : ℕ = div_ceil (length piece) block_size in
    let long : length message ≡ first * block_size = omega (arith, has.taken, whole) in
    let all : div_ceil (length (message ++ piece)) block_size ≡ first + n = omega (arith, length-append message piece, long) in
    let before : div_ceil (length message) block_size ≡ first = omega (arith, long) in
    let front : take first old.leaves.items ≡ leaves_from first message = ap (λ m. take m old.leaves.items) (sym before) ∙ has.leaves ∙ ap (λ m. leaves_from m message) before in
    let count : leaf_count (length piece) ≡ n = omega (arith, some) in
    let size : length (take first old.leaves.items ++ leaves_of piece) ≡ first + n =
    omega (arith, length-append (take first old.leaves.items) (leaves_of piece), length-take-le first old.leaves.items (omega (arith, room)), length-digests block_size (leaf_count (length piece)) piece, count) in
    record {
      taken = omega (arith, taken, has.taken, length-append message piece);
      linear = fed message has.linear;
      leaves = rw all (ap (take (first + n)) leaves ∙ take_at (take first old.leaves.items ++ leaves_of piece) (drop (first + n) old.leaves.items) (first + n) size
          ∙ ap (λ (xs : List (List ℕ)). xs ++ leaves_of piece) front
          ∙ sym (leaves_behind first message piece long some));
    }

-- all of a body that fills its blocks
pub has_all : (body : Body) (message : List ℕ) → HasTaken body message → 0 < body.taken
    → length body.leaves.items ≡ div_ceil body.taken block_size → body.leaves.items ≡ leaves_of message
has_all body message has some full =
    let n : ℕ = div_ceil (length message) block_size in
    let all : take n body.leaves.items ≡ body.leaves.items = take_all n body.leaves.items (omega (arith, full, has.taken)) in
    let count : n ≡ leaf_count (length message) = omega (arith, has.taken, some) in
    sym all ∙ has.leaves ∙ ap (λ m. leaves_from m message) count
