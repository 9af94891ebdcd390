-- The parts of an upload without a gap hold the bytes of the archive that they become, one after another.
use Rattle.std.specs.Prelude.{◌≡◌, ℕ, suc, max, ◌+◌, ◌*◌, ◌%◌, ◌≤◌, ◌<◌, false, cond, List, [], ◌∷◌, ◌++◌, IfSome, length, take, drop, unwrap_or, map as each}
use Rattle.std.specs.FinMap as map
use Rattle.std.specs.List.{AllByRecursion, flat_map}
use Rattle.std.specs.List.Sorted.{IsStrictlySortedBy}
use Rattle.std.specs.Map.{keys_of, values_of}
use Rattle.std.specs.Ordering.{nat_cmp}
use Rattle.std.specs.declared.cmp.Ordering.TheVariants.{Less}
use Rattle.std.proofs.Common.{◌∙◌, ap, sym, refl, subst, arith, eq-eqb, inr}
use Rattle.std.proofs.Math.Nat.{mul-le-mul_right}
use Rattle.std.proofs.Math.Seq.{drop-append_seam, take-append_seam}
use Rattle.std.proofs.lemmas.Cmp.{ranked}
use Rattle.std.proofs.lemmas.List.{append-nil, length-append}
use Rattle.std.proofs.lemmas.List.Concat.{flat_map-cons}
use Rattle.std.proofs.lemmas.Map.Keys.{sorted_head, sorted_tail}
use Rattle.glacier_base.proofs.Sorted.{rising}
use Rattle.glacier_bodies.specs.BlobAreas.{bytes_of}
use Rattle.glacier_bodies.specs.Stands.{Bodies, at_blob}
use Rattle.glacier_treehash.specs.Leaves.{leaves_from, leaves_of}
use Rattle.glacier_treehash.specs.Tree.{mib}
use Rattle.glacier_treehash.proofs.LeavesLemmas.{digests-none, halves_joined}
use Rattle.glacier_vault.specs.Lawful.{IsLawfulPart, IsLawfulUpload}
use Rattle.glacier_vault.specs.Totals.{need}
use Rattle.glacier_vault.specs.declared.archive.Part.{Part}
use Rattle.glacier_vault.specs.declared.archive.Upload.{Upload}
use Rattle.glacier_vault.proofs.PartSizeLemmas.{part_size-whole}
use Rattle.glacier_upload.specs.Completion.{covered_from, covered, has_gap, part_leaves}
use Rattle.glacier_upload.specs.Uploads.{part_blobs}
use Rattle.glacier_upload.proofs.CoverLemmas.{AreNext, are_next, each_entry, each_part}
use Rattle.glacier_replay.specs.Standing.{AreThere, IsTold}

module _ (bodies : Bodies) (account : List ℕ) (part_size : ℕ) (whole : part_size % mib ≡ 0) where
  abbrev blobs_in : List (ℕ × Part) → List ℕ
  blobs_in es = each (λ (part : Part). part.blob) (values_of es)

  abbrev leaves_in : List (ℕ × Part) → List (List ℕ)
  leaves_in es = flat_map (λ (part : Part). part.leaves) (values_of es)

  abbrev bytes_in : List (ℕ × Part) → List ℕ
  bytes_in es = bytes_of bodies account (blobs_in es)

  abbrev Told : ℕ → Part → Type 0
  Told index part = IsTold bodies account part.size part.leaves (part.blob ∷ [])

  -- parts that stand one after another hold the bytes that they cover
  record IsJoined (end : ℕ) (es : List (ℕ × Part)) : Type 0 where
    there : AreThere bodies account (blobs_in es)
    size_is : covered_from part_size end es ≡ end + length (bytes_in es)
    leaves_are : leaves_in es ≡ leaves_from (need (length (bytes_in es))) (bytes_in es)

  -- a body with a byte has as many leaves as blocks
  some_leaves : (bytes : List ℕ) (size : ℕ) → size ≡ length bytes → 1 ≤ size → leaves_of bytes ≡ leaves_from (need (length bytes)) bytes
  some_leaves bytes size is some =
      let count : max 1 (need (length bytes)) ≡ need (length bytes) = omega (arith, is, some) in
      ap (λ n. leaves_from n bytes) count

  covers : (end : ℕ) (e : ℕ × Part) (es : List (ℕ × Part)) → e.0 * part_size ≡ end → covered_from part_size end (e ∷ es) ≡ covered_from part_size (end + e.1.size) es
  covers end e es here = ap (λ b. cond b (covered_from part_size (end + e.1.size) es) end) (eq-eqb (e.0 * part_size) end here)

  -- a part with another behind it has the part size
  full : (end : ℕ) (e f : ℕ × Part) → e.0 * part_size ≡ end → f.0 * part_size ≡ end + e.1.size → nat_cmp e.0 f.0 ≡ Less → e.1.size ≤ part_size → e.1.size ≡ part_size
  full end e f here next less short =
      let lt : e.0 < f.0 = ranked e.0 f.0 Less (sym less) in
      let step : suc e.0 * part_size ≤ f.0 * part_size = mul-le-mul_right {m = suc e.0} {n = f.0} part_size lt in
      omega (arith, step, here, next, short)

  joined_leaves : (x y : List ℕ) (front back : List (List ℕ)) → length x % mib ≡ 0 → front ≡ leaves_from (need (length x)) x → back ≡ leaves_from (need (length y)) y
      → front ++ back ≡ leaves_from (need (length (x ++ y))) (x ++ y)
  joined_leaves x y front back full front_is back_is =
      let place : need (length x) * mib ≡ length x = omega (arith, full) in
      let sum : need (length x) + need (length y) ≡ need (length (x ++ y)) = omega (arith, full, length-append x y) in
      halves_joined mib (need (length x)) (need (length y)) (need (length x)) (need (length (x ++ y))) (x ++ y) x y front back front_is back_is
      (sym (take-append_seam x y) ∙ ap (λ n. take n (x ++ y)) (sym place)) (sym (drop-append_seam x y) ∙ ap (λ n. drop n (x ++ y)) (sym place)) refl sum

  joined : (end : ℕ) (es : List (ℕ × Part)) → IsStrictlySortedBy nat_cmp (keys_of es) → AllByRecursion (λ e. IsLawfulPart part_size e.0 e.1) es → AllByRecursion (λ e. Told e.0 e.1) es
      → AreNext part_size end es → IsJoined end es
  joined end [] sorted right told next = record { there = tt; size_is = omega arith; leaves_are = none }
    where
      none : [] ≡ leaves_from (need 0) []
      none = let zero_is : need 0 ≡ 0 = omega arith in sym (ap (λ n. leaves_from n []) zero_is ∙ digests-none mib [])
  joined end (e ∷ []) sorted right told next = record {
    there = told.0.there;
    size_is = covers end e [] next.0 ∙ ap (λ n. end + n) told.0.size_is;
    leaves_are = flat_map-cons (λ (part : Part). part.leaves) e.1 [] ∙ append-nil e.1.leaves ∙ told.0.leaves_are ∙ some_leaves (bytes_in (e ∷ [])) e.1.size told.0.size_is right.0.body.some;
  }
  joined end (e ∷ f ∷ es) sorted right told next =
      let rest = joined (end + e.1.size) (f ∷ es) (sorted_tail nat_cmp e.0 (keys_of (f ∷ es)) sorted) right.1 told.1 next.1 in
      let own = told.0.there.0 in
      let alone : bytes_of bodies account (e.1.blob ∷ []) ≡ own.0 = append-nil (unwrap_or (at_blob bodies account e.1.blob) []) ∙ ap (λ r. unwrap_or r []) own.1 in
      let head : unwrap_or (at_blob bodies account e.1.blob) [] ≡ own.0 = ap (λ r. unwrap_or r []) own.1 in
      let size : e.1.size ≡ length own.0 = told.0.size_is ∙ ap length alone in
      let fills : e.1.size ≡ part_size = full end e f next.0 next.1.0 (sorted_head nat_cmp e.0 (keys_of (f ∷ es)) sorted).0 right.0.most in
      let units : length own.0 % mib ≡ 0 = ap (λ n. n % mib) (sym size ∙ fills) ∙ whole in
      let bytes : own.0 ++ bytes_in (f ∷ es) ≡ bytes_in (e ∷ f ∷ es) = ap (λ l. l ++ bytes_in (f ∷ es)) (sym head) in
      let leaves : e.1.leaves ≡ leaves_from (need (length own.0)) own.0 = told.0.leaves_are ∙ ap leaves_of alone ∙ some_leaves own.0 e.1.size size right.0.body.some in
      record {
        there = ((own.0, own.1, inr units), rest.there);
        size_is = covers end e (f ∷ es) next.0 ∙ rest.size_is ∙ omega (arith, size, length-append own.0 (bytes_in (f ∷ es)), ap length bytes);
        leaves_are = flat_map-cons (λ (part : Part). part.leaves) e.1 (values_of (f ∷ es)) ∙ joined_leaves own.0 (bytes_in (f ∷ es)) e.1.leaves (leaves_in (f ∷ es)) units leaves rest.leaves_are ∙ ap (λ l. leaves_from (need (length l)) l) bytes;
      }

-- the archive that parts become holds what their blobs hold
pub told_whole : (bodies : Bodies) (account : List ℕ) (last : ℕ) (upload : Upload) → IsLawfulUpload last upload → ((index : ℕ) → IfSome (map.get upload.parts index) (λ part. IsTold bodies account part.size part.leaves (part.blob ∷ [])))
    → has_gap upload ≡ false → 1 ≤ covered upload → IsTold bodies account (covered upload) (part_leaves upload) (part_blobs upload)
told_whole bodies account last upload lawful told no_gap some =
    let sorted = rising nat_cmp (map.entries upload.parts) (map.entries_sorted upload.parts) in
    let each_told = each_entry (λ index (part : Part). IsTold bodies account part.size part.leaves (part.blob ∷ [])) (map.entries upload.parts) sorted
    (λ q. subst (λ r. IfSome r (λ (part : Part). IsTold bodies account part.size part.leaves (part.blob ∷ []))) (map.get-entries upload.parts q) (told q)) in
    let all = joined bodies account upload.part_size (part_size-whole upload.part_size lawful.part_size) 0 (map.entries upload.parts) sorted (each_part last upload lawful) each_told (are_next last upload lawful no_gap) in
    let size : covered upload ≡ length (bytes_of bodies account (part_blobs upload)) = omega (arith, all.size_is) in
    record {
      there = all.there;
      size_is = size;
      leaves_are = all.leaves_are ∙ sym (some_leaves bodies account upload.part_size (part_size-whole upload.part_size lawful.part_size) (bytes_of bodies account (part_blobs upload)) (covered upload) size some);
    }
