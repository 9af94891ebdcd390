-- What fits an account can be put into it.
use Rattle.std.specs.Prelude.{◌≡◌, ◌≢◌, ℕ, ◌≤◌, Bool, true, false, cond, not, ◌&&◌, List, length, Some, None, nat_eq, nat_le}
use Rattle.std.specs.FinMap as map
use Rattle.std.specs.Ordering.{nat_cmp}
use Rattle.std.proofs.Common.{refl, arith}
use Rattle.std.proofs.lemmas.Bool.{eqb-true, eqb-false}
use Rattle.std.proofs.lemmas.Bool.Decides.{nat_tests}
use Rattle.glacier_base.proofs.LookUps.{if_some-empty}
use Rattle.glacier_treehash.specs.Roots.{root_of_digests}
use Rattle.glacier_vault.specs.Account.{counter_end}
use Rattle.glacier_vault.specs.Lawful.{IsLawfulBody, IsLawfulPart}
use Rattle.glacier_vault.specs.PartSizes.{is_part_size, last_index}
use Rattle.glacier_vault.specs.Totals.{need}
use Rattle.glacier_vault.specs.declared.archive.Archive.{Archive}
use Rattle.glacier_vault.specs.declared.archive.Upload.{Upload}
use Rattle.glacier_vault.specs.declared.state.AccountState.{AccountState}
use Rattle.glacier_upload.specs.Completion.{covered, has_gap, whole_archive, IsWhole}
use Rattle.glacier_upload.specs.Parts.{IsNewPart}
use Rattle.glacier_upload.specs.Uploads.{new_upload, open_upload, IsNewUpload}
use Rattle.glacier_upload.specs.Whole.{whole_of}
use Rattle.glacier_replay.proofs.Seen.{both, not_true}
use Rattle.glacier_replay.specs.Replayed.{can_draw, is_body, recorded_part}

number_left : (a : AccountState) → can_draw a ≡ true → a.counter ≢ counter_end
number_left a e end = at (nat_eq a.counter counter_end) refl e
  where
    at : (b : Bool) → nat_eq a.counter counter_end ≡ b → not b ≡ true → ⊥
    at true t h = cc
    at false t h = eqb-false a.counter counter_end t end

pub le_of : (n m : ℕ) → nat_le n m ≡ true → n ≤ m
le_of n m t = grind (arith, nat_tests)

pub right_body : (size : ℕ) (leaves : List (List ℕ)) → is_body size leaves ≡ true → IsLawfulBody size leaves (root_of_digests leaves)
right_body size leaves e =
    let parts = both (nat_le 1 size) (nat_eq (length leaves) (need size)) e in
    record { some = le_of 1 size parts.0; count = eqb-true (length leaves) (need size) parts.1; root = refl }

-- an upload that begins
pub fits_begun : (a : AccountState) (m : ℕ) (name : List ℕ) (part_size : ℕ) (description : List ℕ) → map.contains_key a.vaults name ≡ true → is_part_size part_size ≡ true → can_draw a ≡ true
    → IsNewUpload a m name (new_upload m part_size description)
fits_begun a m name part_size description there right left = record {
  vault = there;
  left = number_left a left;
  right = record { part_size = right; created = omega arith; parts = λ index. if_some-empty nat_cmp (IsLawfulPart part_size index) index };
  bare = refl;
}

module _ (a : AccountState) (name : List ℕ) (number : ℕ) (upload : Upload) (there : open_upload a name number ≡ Some upload) where
  -- a part of a kept body
  pub fits_recorded : (index size : ℕ) (leaves : List (List ℕ)) → (nat_le index last_index && nat_le size upload.part_size && is_body size leaves && can_draw a) ≡ true
      → IsNewPart a name number index (recorded_part a.counter size leaves)
  fits_recorded index size leaves e =
      let last = both (nat_le index last_index && nat_le size upload.part_size && is_body size leaves) (can_draw a) e in
      let body = both (nat_le index last_index && nat_le size upload.part_size) (is_body size leaves) last.0 in
      let place = both (nat_le index last_index) (nat_le size upload.part_size) body.0 in
      record {
        upload = upload;
        there = there;
        left = number_left a last.1;
        right = record { low = le_of index last_index place.0; body = right_body size leaves body.1; most = le_of size upload.part_size place.1 };
        blob = refl;
      }

  -- the archive of parts that leave no gap
  pub fits_whole : (m : ℕ) (archive : Archive) → Some archive ≡ whole_of m upload → can_draw a ≡ true → IsWhole a m name number archive
  fits_whole m archive e left = at (nat_le 1 (covered upload) && not (has_gap upload)) refl e
    where
      at : (b : Bool) → (nat_le 1 (covered upload) && not (has_gap upload)) ≡ b → Some archive ≡ cond b (Some (whole_archive m upload)) None → IsWhole a m name number archive
      at false t h = cc
      at true t h =
          let parts = both (nat_le 1 (covered upload)) (not (has_gap upload)) t in
          record {
            upload = upload;
            there = there;
            left = number_left a left;
            some = le_of 1 (covered upload) parts.0;
            no_gap = not_true (has_gap upload) parts.1;
            is = cc;
          }
