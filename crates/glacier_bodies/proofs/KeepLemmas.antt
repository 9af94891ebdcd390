-- What writes to blocks that no blob has leave of an image.
use Rattle.std.proofs.Common.{◌≡◌, ℕ, ◌*◌, Bool, List, [], ◌∷◌, ◌++◌, length, take, drop, sym, ◌∙◌, ap, ap₂, subst, arith}
use Rattle.std.specs.Prelude.{Some}
use Rattle.std.proofs.lemmas.List.{take-append-drop, length-take, length-drop}
use Rattle.glacier_disk.specs.declared.area.Area.TheVariants.{Lead, Left, Right, Blobs}
use Rattle.glacier_disk.specs.Image.{Image}
use Rattle.glacier_disk.specs.Told.{Told}
use Rattle.glacier_disk.specs.Moments.{LeavesOnly, weaker}
use Rattle.glacier_extents.specs.declared.run.Run.{Run}
use Rattle.glacier_extents.specs.Places.{block_size, WritesOnly, WritesBlocks}
use Rattle.glacier_bodies.specs.Blobs.{Holds}
use Rattle.glacier_bodies.specs.Stands.{Layouts, Bodies, at_blob, AllHeld, StandsBy, Kept, IsUnnamed, KeepsBlobs, KeepsImages}
use Rattle.glacier_bodies.proofs.BlobLemmas.{holds_after}

module _ (own : ℕ → Bool) (layouts : Layouts) (bodies : Bodies) (reads : Image) (unnamed : IsUnnamed own layouts)
    (held : AllHeld layouts bodies (reads Blobs)) where
  -- one image
  pub keeps_blobs : (d i : Image) → WritesOnly own (length (reads Blobs)) d i → KeepsBlobs layouts bodies d i
  keeps_blobs d i written = record {
    others = written.others;
    held = λ before account number runs named. (
        let its : (bytes : List ℕ) × (at_blob bodies account number ≡ Some bytes) × Holds runs bytes (d Blobs) = before account number runs named in
        let read : (bytes : List ℕ) × (at_blob bodies account number ≡ Some bytes) × Holds runs bytes (reads Blobs) = held account number runs named in
        let same : read.0 ≡ its.0 = of_some (sym read.1 ∙ its.1) in
        (its.0, its.1, holds_after own runs its.0 (reads Blobs) d i written (unnamed account number runs named) (subst (λ (bs : List ℕ). Holds runs bs (reads Blobs)) same read.2) its.2));
  }
    where
      of_some : {a b : List ℕ} → Some a ≡ Some b → a ≡ b
      of_some {a} {b} e = cc

-- the calls of a body
pub keeps_images : (own : ℕ → Bool) (layouts : Layouts) (bodies : Bodies) (old new : Told) → WritesBlocks own old new
    → IsUnnamed own layouts → AllHeld layouts bodies (old.reads Blobs)
    → KeepsImages layouts bodies old new
keeps_images own layouts bodies old new wrote unnamed held =
    let step : (i : Image) → ((d : Image) × old.leaves d × WritesOnly own (length (old.reads Blobs)) d i) → (d : Image) × old.leaves d × KeepsBlobs layouts bodies d i =
    λ i (d, leaves, to). (d, leaves, keeps_blobs own layouts bodies old.reads unnamed held d i to) in
    record {
      reads = keeps_blobs own layouts bodies old.reads unnamed held old.reads new.reads wrote.reads;
      crash = λ i now. step i (wrote.crash i now);
      moments = weaker old new _ _ wrote.moments step;
    }

-- a state that images stand for, over any journal that reads Lead, Left and Right alone
module _ {State : Type 0} (Reads : List ℕ → List ℕ → List ℕ → State → Layouts → Type 0)
    (Tells : State → Bodies → Type 0) (state : State) (bodies : Bodies) (layouts : Layouts) where
  stands_on : (d i : Image) → KeepsBlobs layouts bodies d i → StandsBy Reads Tells state bodies layouts d
      → StandsBy Reads Tells state bodies layouts i
  stands_on d i keeps stands = record {
    reads = three (sym (keeps.others Lead (λ e. cc))) (sym (keeps.others Left (λ e. cc))) (sym (keeps.others Right (λ e. cc))) stands.reads;
    held = keeps.held stands.held;
    tells = stands.tells;
    apart = stands.apart;
  }
    where
      three : {a b c a' b' c' : List ℕ} → a ≡ a' → b ≡ b' → c ≡ c' → Reads a b c state layouts
          → Reads a' b' c' state layouts
      three {a} {b} {c} {a'} {b'} {c'} e f g h = subst (λ (z : List ℕ). Reads a' b' z state layouts) g (subst (λ (y : List ℕ). Reads a' y c state layouts) f (subst (λ (x : List ℕ). Reads x b c state layouts) e h))

  -- calls that keep the images keep what they stand for, at each moment
  pub kept : (old new : Told) → KeepsImages layouts bodies old new → Kept Reads Tells old state bodies layouts
      → Kept Reads Tells new state bodies layouts × LeavesOnly old new (StandsBy Reads Tells state bodies layouts)
  kept old new keeps before =
      let step : (i : Image) → ((d : Image) × old.leaves d × KeepsBlobs layouts bodies d i) → StandsBy Reads Tells state bodies layouts i = λ i (d, leaves, to). stands_on d i to (before d leaves) in
      ((λ i now. step i (keeps.crash i now)), weaker old new _ _ keeps.moments step)

-- bytes that are held are the content's
pub held_same : (runs : List Run) (bytes other content : List ℕ) → Holds runs bytes content → Holds runs other content
    → length bytes ≡ length other → bytes ≡ other
held_same [] bytes other content one two long = one ∙ sym two
held_same (run ∷ runs) bytes other content one two long =
    let n : ℕ = run.count * block_size in
    let size : length (take n bytes) ≡ length (take n other) = omega (arith, length-take n bytes, length-take n other, long) in
    let front : take n bytes ≡ take n other = sym one.0 ∙ ap (λ m. take m (drop (run.first * block_size) content)) size ∙ two.0 in
    let back : drop n bytes ≡ drop n other = held_same runs (drop n bytes) (drop n other) content one.1 two.1 (omega (arith, length-drop n bytes, length-drop n other, long)) in
    sym (take-append-drop n bytes) ∙ ap₂ (λ (xs ys : List ℕ). xs ++ ys) front back ∙ take-append-drop n other
