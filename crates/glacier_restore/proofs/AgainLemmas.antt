-- The items of what a vault holds make it again: its archives, held archives, open and finished uploads.
use Rattle.std.specs.Prelude.{◌≡◌, ℕ, ◌<◌, ◌≤◌, Bool, true, false, not, ◌||◌, List, [], length, Option, Some, None, IfSome, IsSome, is_some, ◌+◌, ◌∷◌, nat_eq, sum_by}
use Rattle.std.specs.Cmp.{nat_cmp_total}
use Rattle.std.specs.Cmp.Lexicographic.{nat_list_cmp_total}
use Rattle.std.specs.FinMap as map
use Rattle.std.specs.List.{list_any}
use Rattle.std.specs.Ordering.{nat_cmp}
use Rattle.std.proofs.Common.{◌∙◌, ap, sym, refl, subst, inl, inr, arith}
use Rattle.std.proofs.lemmas.Bool.{cases_lt}
use Rattle.glacier_base.proofs.Finite.{bytes_cmp-IsAntisymmetric}
use Rattle.glacier_base.proofs.Sums.{weight, sum_by-insert}
use Rattle.glacier_extents.specs.declared.run.Run.{Run}
use Rattle.glacier_vault.specs.Lawful.{IsLawful, IsLawfulArchive, IsLawfulUpload, IsLawfulPart, IsLawfulVault, IsDrawn}
use Rattle.glacier_vault.specs.PartSizes.{last_index}
use Rattle.glacier_vault.specs.Totals.{Vaults, upload_total, vault_total, naming, times_named}
use Rattle.glacier_vault.specs.declared.archive.Archive.{Archive}
use Rattle.glacier_vault.specs.declared.archive.Finished.{Finished}
use Rattle.glacier_vault.specs.declared.archive.Part.{Part}
use Rattle.glacier_vault.specs.declared.archive.Upload.{Upload}
use Rattle.glacier_vault.specs.declared.state.AccountState.{AccountState}
use Rattle.glacier_vault.specs.declared.state.VaultState.{VaultState}
use Rattle.glacier_vault.proofs.TotalsLemmas.{sum_by-empty, sum_by-none, total-insert}
use Rattle.glacier_records.specs.declared.kept.Kept.TheVariants as kept
use Rattle.glacier_records.specs.declared.kept.Blob.{Blob}
use Rattle.glacier_restore.specs.Fitting.{are_apart, takes_archive, takes_upload, takes_part, upload_takes, takes_finished}
use Rattle.glacier_restore.specs.Putting.{put_archive, put_part, with_archive, with_upload, with_part, in_upload, with_finished}
use Rattle.glacier_restore.specs.Restoring.{is_named, put}
use Rattle.glacier_restore.specs.Snapshot.{put_all, of_each, with_runs, archive_items, held_items, part_items, upload_items, finished_items}
use Rattle.glacier_restore.specs.Sound.{IsSoundVault}
use Rattle.glacier_restore.proofs.CountLemmas.{apart_again, none_of, uncounted, value_within}
use Rattle.glacier_restore.proofs.EachLemmas.{HasRoom, put_all-cons, each_entry, get_there, changed_there}
use Rattle.glacier_restore.proofs.GrownLemmas.{right_vault}
use Rattle.glacier_restore.proofs.NamedLemmas.{one_if, times, times_step}
use Rattle.glacier_restore.proofs.PlacedLemmas.{both, le_test, lt_test, eq_test, archive_again, part_again, placed-in, stand, archives_made, held_made, uploads_made, finished_made, past_test}

pub none_of_two : {X Y : Type 0} (r : Option X) (s : Option Y) → r ≡ None → s ≡ None → not (is_some r || is_some s) ≡ true
none_of_two None None e f = refl
none_of_two (Some x) s e f = cc
none_of_two None (Some y) e f = cc

pub none_of_one : {X : Type 0} (r : Option X) → r ≡ None → not (is_some r) ≡ true
none_of_one None e = refl
none_of_one (Some x) e = cc

module _ (a : AccountState) (lawful : IsLawful a) (name : List ℕ) (vault : VaultState) (there : map.get a.vaults name ≡ Some vault) where
  right : IsLawfulVault a.counter a.last vault
  right = right_vault a lawful name vault there

  -- how often an archive names a blob is no more than the account does
  named_once : (archive : Archive) → ((blob : ℕ) → times blob archive.blobs ≤ vault_total (naming blob) vault) → are_apart a.counter archive.blobs ≡ true
  named_once archive within =
      let in_account = λ (blob : ℕ). value_within nat_list_cmp_total bytes_cmp-IsAntisymmetric (vault_total (naming blob)) a.vaults name vault there in
      apart_again a.counter archive.blobs
      (λ blob. omega (arith, within blob, in_account blob, (lawful.blobs blob).once))
      (λ blob high. omega (arith, within blob, in_account blob, (lawful.blobs blob).drawn high))

  apart_live : (k : ℕ) (x : Archive) → map.get vault.archives k ≡ Some x → are_apart a.counter x.blobs ≡ true
  apart_live k x is = named_once x (λ blob. omega (arith, value_within nat_cmp_total map.nat_cmp-IsAntisymmetric (naming blob).archive vault.archives k x is))

  apart_held : (k : ℕ) (x : Archive) → map.get vault.held k ≡ Some x → are_apart a.counter x.blobs ≡ true
  apart_held k x is = named_once x (λ blob. omega (arith, value_within nat_cmp_total map.nat_cmp-IsAntisymmetric (naming blob).archive vault.held k x is))

  module _ (runs : ℕ → List Run) (p : Vaults) (free : map.get p name ≡ None) (room : HasRoom a.vaults p vault) where
    -- a blob for which the vault has room beside what is made of it isn't named yet
    new_blob : (v : VaultState) (blob gain : ℕ) → vault_total (naming blob) v + gain ≤ vault_total (naming blob) vault → 1 ≤ gain → is_named (stand a p name v) blob ≡ false
    new_blob v blob gain within some =
        let none : times_named blob (map.insert p name v) ≡ 0 = omega (arith, total-insert (naming blob) p name v free, room (vault_total (naming blob)), within, some, (lawful.blobs blob).once) in
        uncounted blob (stand a p name v) none

    all_new : (b : AccountState) (ns : List ℕ) → ((n : ℕ) → 1 ≤ times n ns → is_named b n ≡ false) → list_any (λ (blob : Blob). is_named b blob.number) (with_runs runs ns) ≡ false
    all_new b [] h = refl
    all_new b (n ∷ ns) h =
        none_of _ _ (h n (omega (arith, times_step n n ns, ap one_if (eq_test n n refl))))
        (all_new b ns (λ m some. h m (omega (arith, some, times_step m n ns))))

    archive_new : (v : VaultState) (x : Archive) → ((blob : ℕ) → vault_total (naming blob) v + times blob x.blobs ≤ vault_total (naming blob) vault)
        → list_any (λ (blob : Blob). is_named (stand a p name v) blob.number) (with_runs runs x.blobs) ≡ false
    archive_new v x within = all_new (stand a p name v) x.blobs (λ n some. new_blob v n (times n x.blobs) (within n) some)

    archive_put : (held : Bool) (k : ℕ) (x : Archive) → IsDrawn a.counter (IsLawfulArchive a.last) k x → are_apart a.counter x.blobs ≡ true
        → (v : VaultState) → map.len v.jobs ≡ 0 → map.get v.archives k ≡ None → map.get v.held k ≡ None
        → put (stand a p name v) x.created (kept.Archive name k held x.size x.description x.leaves (with_runs runs x.blobs)) ≡ Some (stand a p name (with_archive held k x v))
    archive_put held k x is apart v none live gone =
        ap (λ r. elim r as (λ _. Option AccountState) [ None ↦ None | Some archive ↦ put_archive (stand a p name v) name held k archive ]) (archive_again runs x is.right.body)
        ∙ placed-in a.last a.counter p name v (takes_archive (stand a p name v) k x) (with_archive held k x)
        (both _ _ (both _ _ (both _ _ (both _ _
        (past_test a.last a.counter p name x.created k is.drawn is.right.created)
        (le_test 1 (length x.blobs) is.right.blob)) apart) (eq_test (map.len v.jobs) 0 none))
        (none_of_two (map.get v.archives k) (map.get v.held k) live gone))

    pub archives_again : put_all (stand a p name (archives_made vault map.empty)) (of_each (archive_items runs name) vault.archives) ≡ Some (stand a p name (archives_made vault vault.archives))
    archives_again = each_entry nat_cmp_total map.nat_cmp-IsAntisymmetric vault.archives (λ q. stand a p name (archives_made vault q)) (archive_items runs name) (λ q k x is none beside.
        let drawn = subst (λ r. IfSome r (IsDrawn a.counter (IsLawfulArchive a.last) k)) is (right.archives k) in
        put_all-cons x.created (kept.Archive name k false x.size x.description x.leaves (with_runs runs x.blobs)) [] (stand a p name (archives_made vault q)) _
        (archive_new (archives_made vault q) x (λ blob. omega (
          arith,
          beside (naming blob).archive,
          sum_by-empty nat_cmp (naming blob).archive,
          sum_by-empty nat_cmp (upload_total (naming blob)),
          sum_by-none (map.values (archives_made vault q).jobs),
          sum_by-none (map.values (archives_made vault q).finished),
        )))
        (archive_put false k x drawn (apart_live k x is) (archives_made vault q) (map.len-empty nat_cmp _) none (map.get-empty nat_cmp k)))

    pub held_again : put_all (stand a p name (held_made vault map.empty)) (of_each (held_items runs name) vault.held) ≡ Some (stand a p name (held_made vault vault.held))
    held_again = each_entry nat_cmp_total map.nat_cmp-IsAntisymmetric vault.held (λ q. stand a p name (held_made vault q)) (held_items runs name) (λ q k x is none beside.
        let drawn = subst (λ r. IfSome r (IsDrawn a.counter (IsLawfulArchive a.last) k)) is (right.held k) in
        let dead = right.live_or_held k (subst IsSome (sym is) refl) in
        put_all-cons x.created (kept.Archive name k true x.size x.description x.leaves (with_runs runs x.blobs)) [] (stand a p name (held_made vault q)) _
        (archive_new (held_made vault q) x (λ blob. omega (
          arith,
          beside (naming blob).archive,
          sum_by-empty nat_cmp (upload_total (naming blob)),
          sum_by-none (map.values (held_made vault q).jobs),
          sum_by-none (map.values (held_made vault q).finished),
        )))
        (archive_put true k x drawn (apart_held k x is) (held_made vault q) (map.len-empty nat_cmp _) dead none))

    module _ (q : map.FinMap nat_cmp Upload) (k : ℕ) (x : Upload) (is : IsDrawn a.counter (IsLawfulUpload a.last) k x) where
      -- an upload that has these of its parts
      abbrev parts_made : map.FinMap nat_cmp Part → Upload
      parts_made parts = record x { parts = parts }

      upload_put : map.get q k ≡ None → put (stand a p name (uploads_made vault q)) x.created (kept.OpenUpload name k x.part_size x.description) ≡ Some (stand a p name (uploads_made vault (map.insert q k (parts_made map.empty))))
      upload_put none = placed-in a.last a.counter p name (uploads_made vault q) (takes_upload (stand a p name (uploads_made vault q)) k (parts_made map.empty)) (with_upload k (parts_made map.empty))
          (both _ _ (both _ _ (past_test a.last a.counter p name x.created k is.drawn is.right.created) is.right.part_size)
          (none_of_two (map.get q k) (map.get (map.empty {X = Finished} {R = nat_cmp}) k) none (map.get-empty nat_cmp k)))

      part_put : (parts : map.FinMap nat_cmp Part) (index : ℕ) (part : Part) → IsLawfulPart x.part_size index part → part.blob < a.counter → map.get parts index ≡ None
          → put (stand a p name (uploads_made vault (map.insert q k (parts_made parts)))) 0 (kept.OpenPart name k index part.size part.blob part.leaves (runs part.blob))
          ≡ Some (stand a p name (uploads_made vault (map.insert q k (parts_made (map.insert parts index part)))))
      part_put parts index part lawful_part low none =
          let v = uploads_made vault (map.insert q k (parts_made parts)) in
          ap (λ r. elim r as (λ _. Option AccountState) [ None ↦ None | Some part ↦ put_part (stand a p name v) name k index part ]) (part_again part lawful_part.body)
          ∙ placed-in a.last a.counter p name v (upload_takes (stand a p name v) k index part) (in_upload k index part)
          (ap (λ r. elim r as (λ _. Bool) [ None ↦ false | Some upload ↦ takes_part (stand a p name v) index part upload ]) (get_there nat_cmp_total map.nat_cmp-IsAntisymmetric q k (parts_made parts))
          ∙ both _ _ (both _ _ (both _ _ (le_test index last_index lawful_part.low) (le_test part.size x.part_size lawful_part.most)) (lt_test part.blob a.counter low)) (none_of_one (map.get parts index) none))
          ∙ ap (λ uploads. Some (stand a p name (uploads_made vault uploads))) (changed_there nat_cmp_total map.nat_cmp-IsAntisymmetric q k (parts_made parts) (with_part index part))

      part_new : map.get q k ≡ None → HasRoom vault.uploads q x → (parts : map.FinMap nat_cmp Part) (part : Part) → HasRoom x.parts parts part
          → is_named (stand a p name (uploads_made vault (map.insert q k (parts_made parts)))) part.blob ≡ false
      part_new none beside parts part within =
          let w = naming part.blob in
          let one : one_if (nat_eq part.blob part.blob) ≡ 1 = ap one_if (eq_test part.blob part.blob refl) in
          new_blob (uploads_made vault (map.insert q k (parts_made parts))) part.blob 1
          (omega (
            arith,
            one,
            within w.part,
            beside (upload_total w),
            sum_by-insert nat_cmp_total (upload_total w) q k (parts_made parts),
            ap (weight (upload_total w)) none,
            sum_by-none (map.values (uploads_made vault (map.insert q k (parts_made parts))).jobs),
            sum_by-none (map.values (uploads_made vault (map.insert q k (parts_made parts))).finished),
          ))
          (omega arith)

      upload_again : ((index : ℕ) (part : Part) → map.get x.parts index ≡ Some part → part.blob < a.counter) → map.get q k ≡ None → HasRoom vault.uploads q x
          → put_all (stand a p name (uploads_made vault q)) (upload_items runs name k x) ≡ Some (stand a p name (uploads_made vault (map.insert q k x)))
      upload_again low none beside =
          put_all-cons x.created (kept.OpenUpload name k x.part_size x.description) (of_each (part_items runs name k) x.parts) (stand a p name (uploads_made vault q)) _ refl (upload_put none)
          ∙ each_entry nat_cmp_total map.nat_cmp-IsAntisymmetric x.parts (λ parts. stand a p name (uploads_made vault (map.insert q k (parts_made parts)))) (part_items runs name k) (λ parts index part has missing within.
          let lawful_part = subst (λ r. IfSome r (IsLawfulPart x.part_size index)) has (is.right.parts index) in
          put_all-cons 0 (kept.OpenPart name k index part.size part.blob part.leaves (runs part.blob)) [] (stand a p name (uploads_made vault (map.insert q k (parts_made parts)))) _
          (part_new none beside parts part within)
          (part_put parts index part lawful_part (low index part has) missing))

    -- a part's blob was drawn
    part_low : (k : ℕ) (x : Upload) → map.get vault.uploads k ≡ Some x → (index : ℕ) (part : Part) → map.get x.parts index ≡ Some part → part.blob < a.counter
    part_low k x is index part has = elim (cases_lt part.blob a.counter) [
      | inl lt ↦ lt
      | inr high ↦ absurd (omega (
        arith,
        ap one_if (eq_test part.blob part.blob refl),
        value_within nat_cmp_total map.nat_cmp-IsAntisymmetric (naming part.blob).part x.parts index part has,
        value_within nat_cmp_total map.nat_cmp-IsAntisymmetric (upload_total (naming part.blob)) vault.uploads k x is,
        value_within nat_list_cmp_total bytes_cmp-IsAntisymmetric (vault_total (naming part.blob)) a.vaults name vault there,
        (lawful.blobs part.blob).drawn high,
      ))
    ]

    pub uploads_again : put_all (stand a p name (uploads_made vault map.empty)) (of_each (upload_items runs name) vault.uploads) ≡ Some (stand a p name (uploads_made vault vault.uploads))
    uploads_again = each_entry nat_cmp_total map.nat_cmp-IsAntisymmetric vault.uploads (λ q. stand a p name (uploads_made vault q)) (upload_items runs name) (λ q k x is none beside.
        let drawn = subst (λ r. IfSome r (IsDrawn a.counter (IsLawfulUpload a.last) k)) is (right.uploads k) in
        upload_again q k x drawn (part_low k x is) none beside)

    pub finished_again : IsSoundVault vault → put_all (stand a p name (finished_made vault map.empty)) (of_each (finished_items name) vault.finished) ≡ Some (stand a p name (finished_made vault vault.finished))
    finished_again sound = each_entry nat_cmp_total map.nat_cmp-IsAntisymmetric vault.finished (λ q. stand a p name (finished_made vault q)) (finished_items name) (λ q k x is none _.
        let drawn = subst (λ r. IfSome r (IsDrawn a.counter (λ (finished : Finished). finished.at ≤ a.last) k)) is (right.finished k) in
        let size = subst (λ r. IfSome r (λ (finished : Finished). 1 ≤ finished.size)) is (sound.finished k) in
        let closed = right.open_or_finished k (subst IsSome (sym is) refl) in
        put_all-cons x.at (kept.Finished name k x.size x.tree x.archive) [] (stand a p name (finished_made vault q)) _ refl (placed-in a.last a.counter p name (finished_made vault q) (takes_finished (stand a p name (finished_made vault q)) k x) (with_finished k x)
        (both _ _ (both _ _ (past_test a.last a.counter p name x.at k drawn.drawn drawn.right) (le_test 1 x.size size)) (none_of_two (map.get vault.uploads k) (map.get q k) closed none))))
