-- What the row of a completion asks of its change.
use Rattle.std.specs.Prelude.{◌≡◌, ℕ, ◌≤◌, ◌<◌, Bool, true, false, cond, not, List, length, Option, Some, None, Ok, Err, nat_eq}
use Rattle.std.specs.FinMap as map
use Rattle.std.proofs.Common.{◌∙◌, ap, refl, arith}
use Rattle.std.proofs.lemmas.Bool.{eqb-true}
use Rattle.glacier_treehash.specs.Roots.{root_of_digests}
use Rattle.glacier_vault.specs.Lawful.{IsLawfulUpload}
use Rattle.glacier_vault.specs.Rows.{Row, in_vault, drawn, draw_refusal, changed, no_change}
use Rattle.glacier_vault.specs.Totals.{need}
use Rattle.glacier_vault.specs.declared.event.Change.{Change}
use Rattle.glacier_vault.specs.declared.event.Event.TheVariants as events
use Rattle.glacier_vault.specs.declared.archive.Upload.{Upload}
use Rattle.glacier_vault.specs.declared.refusal.Refusal.{Refusal}
use Rattle.glacier_vault.specs.declared.refusal.Refusal.TheVariants.{NoVault, NoUpload, Gap, SizeDiffers, TreeMismatch}
use Rattle.glacier_vault.specs.declared.state.AccountState.{AccountState}
use Rattle.glacier_vault.specs.declared.state.VaultState.{VaultState}
use Rattle.glacier_upload.specs.Bodies.{is_same}
use Rattle.glacier_upload.specs.Completion.{covered, has_gap, part_leaves, cover_refusal, complete_refusal, whole_archive, with_completed, archive_before, IsWhole}
use Rattle.glacier_upload.proofs.CoverLemmas.{leaves_covered}
use Rattle.glacier_upload.proofs.DrawLemmas.{drawn_left}
use Rattle.glacier_upload.proofs.OpenLemmas.{opened}
use Rattle.glacier_upload.proofs.SameText.{same_text}

-- parts that cover just so many bytes
pub covers_just : (upload : Upload) (size : ℕ) → cover_refusal upload size ≡ None → (has_gap upload ≡ false) × (covered upload ≡ size)
covers_just upload size e = at (has_gap upload) (nat_eq (covered upload) size) refl refl e
  where
    at : (gap same : Bool) → has_gap upload ≡ gap → nat_eq (covered upload) size ≡ same
        → cond gap (Some (Gap (covered upload))) (cond (not same) (Some (SizeDiffers (covered upload) size)) None) ≡ None → (has_gap upload ≡ false) × (covered upload ≡ size)
    at true same g t h = cc
    at false false g t h = cc
    at false true g t h = (g, eqb-true (covered upload) size t)

module _ (a : AccountState) (upload : Upload) (size : ℕ) (tree : List ℕ) (e : complete_refusal a upload size tree ≡ None) where
  -- what a completion that isn't refused has: parts that cover its size, and their root; and a number is drawn
  pub accepted_parts : (cover_refusal upload size ≡ None) × (root_of_digests (part_leaves upload) ≡ tree) × (draw_refusal a ≡ None)
  accepted_parts = at (cover_refusal upload size) refl (is_same (root_of_digests (part_leaves upload)) tree) refl e
    where
      at : (r : Option Refusal) → cover_refusal upload size ≡ r → (same : Bool) → is_same (root_of_digests (part_leaves upload)) tree ≡ same
          → ◌≡◌ {A = Option Refusal} (elim r [ Some refusal ↦ Some refusal | None ↦ cond (not same) (Some (TreeMismatch (root_of_digests (part_leaves upload)) tree)) (draw_refusal a) ]) None
          → (cover_refusal upload size ≡ None) × (root_of_digests (part_leaves upload) ≡ tree) × (draw_refusal a ≡ None)
      at (Some refusal) c same t h = cc
      at None c false t h = cc
      at None c true t h = (c, same_text (root_of_digests (part_leaves upload)) tree t, h)

  pub fits_completion : (m : ℕ) (name : List ℕ) (number : ℕ) (vault : VaultState) → 1 ≤ size → map.get a.vaults name ≡ Some vault → map.get vault.uploads number ≡ Some upload → IsWhole a m name number (whole_archive m upload)
  fits_completion m name number vault some there is_open =
      let covers = covers_just upload size accepted_parts.0 in
      record {
        upload = upload;
        there = opened a name number vault upload there is_open;
        left = drawn_left a accepted_parts.2;
        some = omega (arith, covers.1);
        no_gap = covers.0;
        is = refl;
      }

-- parts that cover a size have a leaf
pub some_leaves : (last : ℕ) (upload : Upload) (size : ℕ) → IsLawfulUpload last upload → 1 ≤ size → cover_refusal upload size ≡ None → 0 < length (part_leaves upload)
some_leaves last upload size lawful some e =
    let covers = covers_just upload size e in
    let count : length (part_leaves upload) ≡ need size = leaves_covered last upload lawful covers.0 ∙ ap need covers.1 in
    omega arith

module _ (a : AccountState) (m : ℕ) (name : List ℕ) (number size : ℕ) (tree : List ℕ) where
  -- the row, by what is found
  abbrev pub by_refusal : Upload → Option Refusal → Row (ℕ × Change)
  by_refusal upload r = elim r [
    | Some refusal ↦ Err refusal
    | None ↦ Ok (in_vault (drawn a) m name (with_completed number a.counter (whole_archive m upload)), (a.counter, changed (events.Complete name number)))
  ]

  abbrev pub by_upload : Option Upload → Row (ℕ × Change)
  by_upload r = elim r [ None ↦ Err (NoUpload number) | Some upload ↦ by_refusal upload (complete_refusal a upload size tree) ]

  abbrev pub by_answer : VaultState → Option ℕ → Row (ℕ × Change)
  by_answer vault r = elim r [ Some archive ↦ Ok (a, (archive, no_change)) | None ↦ by_upload (map.get vault.uploads number) ]

  abbrev pub by_vault : Option VaultState → Row (ℕ × Change)
  by_vault r = elim r [ None ↦ Err (NoVault name) | Some vault ↦ by_answer vault (archive_before vault number size tree) ]
