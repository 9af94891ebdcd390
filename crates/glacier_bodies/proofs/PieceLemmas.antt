-- A piece of a body that is written block after block.
use Rattle.std.proofs.Common.{◌≡◌, ℕ, ◌+◌, ◌-◌, ◌*◌, ◌<◌, ◌≤◌, min, nat_eq, List, ◌++◌, length, take, drop, refl, sym, ◌∙◌, ap, arith}
use Rattle.std.specs.Prelude.{Result, OnOk, IsErr}
use Rattle.std.specs.declared.result.Result.TheVariants.{Ok, Err}
use Rattle.std.proofs.lemmas.List.{append_assoc, append-nil, length-append, length-take, same_lists, places, take_all}
use Rattle.glacier_disk.specs.declared.area.Area.TheVariants.{Blobs}
use Rattle.glacier_disk.specs.Told.{Told}
use Rattle.glacier_extents.specs.declared.run.Run.{Run}
use Rattle.glacier_extents.specs.Places.{block_size, HasAt, WritesOnly, WritesBlocks}
use Rattle.glacier_extents.specs.Runs.{has_block, block_count, block_at, AreDistinct}
use Rattle.glacier_extents.proofs.PlaceLemmas.{blocks_on, blocks_wider}
use Rattle.glacier_bodies.specs.Blobs.{Holds}
use Rattle.glacier_bodies.proofs.BlobLemmas.{nat_same, block_at_has, holds_front, holds_before, holds_more}

-- The next piece of some bytes: it is block i of them, and its block is the one at its place.
module _ (runs : List Run) (bytes : List ℕ) (high from i start end block : ℕ) (old mid new : Told) (distinct : AreDistinct high runs)
    (is : start ≡ i * block_size) (to : end ≡ min (length bytes) (start + block_size)) (within : start < length bytes)
    (room : from * block_size + length bytes ≤ block_count runs * block_size) (at : block ≡ block_at runs (from + i)) (wrote : WritesBlocks (nat_eq block) mid new) where
  inside : from + i < block_count runs
  inside = omega (arith, is, within, room)

  pub piece_own : WritesBlocks (has_block runs) old mid → WritesBlocks (has_block runs) old new
  piece_own so_far = blocks_on (has_block runs) old mid new so_far
      (blocks_wider (nat_eq block) (has_block runs) mid new (λ b same. ap (has_block runs) (sym (nat_same block b same) ∙ at) ∙ block_at_has runs (from + i) inside) wrote)

  module _ (before : List ℕ) (long : length before ≡ from * block_size)
      (held : Holds runs (before ++ take (i * block_size) bytes) (mid.reads Blobs)) where
    so_far : length (before ++ take (i * block_size) bytes) ≡ (from + i) * block_size
    so_far = omega (arith, length-append before (take (i * block_size) bytes), length-take (i * block_size) bytes, long, within, is)

    -- what was written before the piece is still there
    keeps : Holds runs (before ++ take (i * block_size) bytes) (new.reads Blobs)
    keeps =
        let one : WritesOnly (nat_eq (block_at runs (from + i))) (length (mid.reads Blobs)) mid.reads new.reads = rw at at wrote.reads in
        holds_before high runs (from + i) (before ++ take (i * block_size) bytes) mid.reads new.reads distinct one so_far inside held

    pub piece_keeps : Holds runs before (new.reads Blobs)
    piece_keeps = holds_front runs before (take (i * block_size) bytes) (new.reads Blobs) keeps

    -- and the piece stands behind it
    pub piece_more : HasAt (block * block_size) (take (end - start) (drop start bytes)) (new.reads Blobs)
        → Holds runs (before ++ take ((i + 1) * block_size) bytes) (new.reads Blobs)
    piece_more has =
        let piece : List ℕ = take (end - start) (drop start bytes) in
        let small : length piece ≤ block_size = omega (arith, length-take (end - start) (drop start bytes), to) in
        let next : (i + 1) * block_size ≡ start + block_size = omega (arith, is) in
        let cut : take (start + block_size) bytes ≡ take start bytes ++ piece = same_lists _ _ (grind (arith, places)) (λ k d h. grind (arith, places)) in
        let whole : (before ++ take (i * block_size) bytes) ++ piece ≡ before ++ take ((i + 1) * block_size) bytes =
        rw (next, ← is, append_assoc before (take start bytes) piece, cut) refl in
        rw (← whole) (holds_more runs (from + i) (before ++ take (i * block_size) bytes) piece (new.reads Blobs) so_far small inside (rw at at has) keeps)

-- before the first piece
pub no_piece : (runs : List Run) (before bytes content : List ℕ) → Holds runs before content
    → Holds runs (before ++ take (0 * block_size) bytes) content
no_piece runs before bytes content held = rw append-nil held

-- after the last
pub all_pieces : (runs : List Run) (before bytes content : List ℕ) (n : ℕ) → length bytes ≤ n * block_size
    → Holds runs (before ++ take (n * block_size) bytes) content
    → Holds runs before content × Holds runs (before ++ bytes) content
all_pieces runs before bytes content n all held =
    let whole : take (n * block_size) bytes ≡ bytes = take_all (n * block_size) bytes all in
    (holds_front runs before (take (n * block_size) bytes) content held, rw whole at held)

-- nothing is claimed of an Ok where the call failed
pub not_ok : {T E : Type 0} (P : Type 0) (r : Result T E) → IsErr r → OnOk r P
not_ok P (Ok x) is = cc
not_ok P (Err e) is = tt
