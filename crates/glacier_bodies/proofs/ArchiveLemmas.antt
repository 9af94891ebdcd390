-- The bytes of several blobs, one after another.
use Rattle.std.specs.Prelude.{unwrap_or, Some}
use Rattle.std.proofs.Common.{◌≡◌, ℕ, ◌*◌, ◌≤◌, List, [], ◌∷◌, ◌++◌, length, take, drop, refl, sym, ◌∙◌, ap, subst, inl, inr, arith}
use Rattle.std.proofs.lemmas.List.{take-append-le, drop-append-le, length-drop, append-nil}
use Rattle.glacier_extents.specs.declared.run.Run.{Run}
use Rattle.glacier_extents.specs.Places.{block_size}
use Rattle.glacier_extents.specs.Runs.{block_count}
use Rattle.glacier_bodies.specs.BlobAreas.{runs_of, bytes_of, AreFilled}
use Rattle.glacier_bodies.specs.Blobs.{Holds}
use Rattle.glacier_bodies.specs.Stands.{Layouts, Bodies, at_blob, AllHeld}

-- bytes that fill their blocks, and bytes behind them
pub holds_joined : (xs ys : List Run) (first second content : List ℕ) → length first ≡ block_count xs * block_size
    → Holds xs first content → Holds ys second content → Holds (xs ++ ys) (first ++ second) content
holds_joined [] ys first second content full one two = subst (λ (bs : List ℕ). Holds ys (bs ++ second) content) (sym one) two
holds_joined (run ∷ xs) ys first second content full one two =
    let n : ℕ = run.count * block_size in
    let inside : n ≤ length first = omega (arith, full) in
    let front : take n (first ++ second) ≡ take n first = take-append-le n first second inside in
    let back : drop n (first ++ second) ≡ drop n first ++ second = drop-append-le n first second inside in
    (rw front one.0, rw back (holds_joined xs ys (drop n first) second content (omega (arith, length-drop n first, full)) one.1 two))

-- an archive's bytes lie in its blobs' blocks
pub archive_held : (blobs : Layouts) (bodies : Bodies) (account numbers content : List ℕ)
    → AllHeld blobs bodies content → AreFilled blobs bodies account numbers
    → Holds (runs_of blobs account numbers) (bytes_of bodies account numbers) content
archive_held blobs bodies account [] content held filled = refl
archive_held blobs bodies account (number ∷ numbers) content held filled =
    let runs : List Run = filled.0.0 in
    let its : (bytes : List ℕ) × (at_blob bodies account number ≡ Some bytes) × Holds runs bytes content = held account number runs filled.0.1 in
    let mine : unwrap_or (at_blob blobs account number) [] ≡ runs = ap (λ r. unwrap_or r []) filled.0.1 in
    let body : unwrap_or (at_blob bodies account number) [] ≡ its.0 = ap (λ r. unwrap_or r []) its.1 in
    elim filled.0.2 [
      | inl last ↦ rw (mine, body) (alone runs its.0 (runs_of blobs account numbers) (bytes_of bodies account numbers) (ap (runs_of blobs account) last) (ap (bytes_of bodies account) last) its.2)
      | inr full ↦ rw (mine, body) (holds_joined runs (runs_of blobs account numbers) its.0 (bytes_of bodies account numbers) content (ap length (sym body) ∙ full) its.2
          (archive_held blobs bodies account numbers content held filled.1))
    ]
  where
    alone : (runs : List Run) (bytes : List ℕ) (rest : List Run) (more : List ℕ) → rest ≡ [] → more ≡ []
        → Holds runs bytes content → Holds (runs ++ rest) (bytes ++ more) content
    alone runs bytes rest more none nothing has = rw (none, nothing, append-nil runs, append-nil bytes) has
