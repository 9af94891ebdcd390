-- What is made of an area leaves opened bodies opened.
use Rattle.std.proofs.Common.{◌≡◌, ℕ, List, [], Option, Some, None, inl, inr, refl, sym, subst, unwrap_or}
use Rattle.glacier_bodies.specs.BlobAreas.{AreaState, IsOpen, with_blob}
use Rattle.glacier_bodies.specs.Blobs.{IsApart}
use Rattle.glacier_bodies.specs.Stands.{Layouts, at_blob}
use Rattle.glacier_bodies.proofs.NameLemmas.{blob_after}
use Rattle.glacier_bodies.proofs.SoundLemmas.{apart_both}
use Rattle.glacier_extents.specs.declared.run.Run.{Run}
use Rattle.glacier_extents.specs.Runs.{has_block}
use Rattle.glacier_store.specs.Calls.{HasFreed, HasNamed}

-- no block of an open body is a blob's
pub named_apart : (area : AreaState) (runs : List Run) → IsOpen area runs → (account : List ℕ) (number : ℕ)
    → IsApart (has_block (unwrap_or (at_blob area.blobs account number) [])) runs
named_apart area runs opened account number = at (at_blob area.blobs account number) refl
  where
    at : (r : Option (List Run)) → at_blob area.blobs account number ≡ r → IsApart (has_block (unwrap_or r [])) runs
    at None e = λ b is. absurd (cc is)
    at (Some blob) e = apart_both runs blob (opened.unnamed account number blob e)

-- another open body stays open where one becomes a blob
open_beside : (free own runs : List Run) (blobs : Layouts) (account : List ℕ) (number : ℕ)
    → IsOpen (record { free = free; blobs = blobs }) runs → IsApart (has_block own) runs
    → IsOpen (record { free = free; blobs = with_blob blobs account number own }) runs
open_beside free own runs blobs account number opened apart = record {
  distinct = opened.distinct;
  used = opened.used;
  unnamed = λ a n blob there. elim (blob_after blobs account a number n own blob there) [
    | inl mine ↦ subst (λ (r : List Run). IsApart (has_block runs) r) (sym mine.2) (apart_both own runs apart)
    | inr old ↦ opened.unnamed a n blob old
  ];
}

-- a body was named, and then blobs went
pub has_named : (old named new : AreaState) (account : List ℕ) (number : ℕ) (own : List Run) (numbers : List ℕ)
    → named.free ≡ old.free → named.blobs ≡ with_blob old.blobs account number own → HasFreed named new account numbers
    → HasNamed old new account number own numbers
has_named old named new account number own numbers free blobs freed =
    let its = subst (λ (f : List Run). HasFreed (record { free = f; blobs = with_blob old.blobs account number own }) new account numbers) free
    (subst (λ (l : Layouts). HasFreed (record { free = named.free; blobs = l }) new account numbers) blobs freed) in
    record {
      freed = its;
      others = λ runs opened apart. its.others runs (open_beside old.free own runs old.blobs account number opened apart);
    }
