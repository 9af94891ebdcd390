-- When a completion of an open upload is accepted, and that a repetition is accepted the same.
use Rattle.std.specs.Prelude.{◌≡◌, ◌≢◌, ◌↔◌, ℕ, true, cond, not, ◌&&◌, List, Option, Some, None, Ok, IsOk, IsSome, nat_eq}
use Rattle.std.specs.Cmp.{nat_cmp_total, eq_by_cmp_equiv}
use Rattle.std.specs.Cmp.Lexicographic.{nat_list_cmp_total}
use Rattle.std.specs.FinMap as map
use Rattle.std.specs.Option.{option_map}
use Rattle.std.proofs.Common.{◌∙◌, ap, sym, refl, subst, arith, eq-eqb}
use Rattle.std.proofs.lemmas.Cmp.{nat_list_eq_equiv}
use Rattle.glacier_base.specs.Maps.{changed_at}
use Rattle.glacier_base.proofs.Changed.{get-changed_at}
use Rattle.glacier_treehash.specs.Roots.{root_of_digests}
use Rattle.glacier_vault.specs.Account.{counter_end}
use Rattle.glacier_vault.specs.Lawful.{IsLawful, IsLawfulVault, IsLawfulUpload}
use Rattle.glacier_vault.specs.Rows.{draw_refusal, changed, no_change, in_vault, drawn}
use Rattle.glacier_vault.specs.declared.archive.Finished.{Finished}
use Rattle.glacier_vault.specs.declared.archive.Upload.{Upload}
use Rattle.glacier_vault.specs.declared.event.Change.{Change}
use Rattle.glacier_vault.specs.declared.event.Event.TheVariants as events
use Rattle.glacier_vault.specs.declared.refusal.Refusal.{Refusal}
use Rattle.glacier_vault.specs.declared.refusal.Refusal.TheVariants.{TreeMismatch}
use Rattle.glacier_vault.specs.declared.state.AccountState.{AccountState}
use Rattle.glacier_vault.specs.declared.state.VaultState.{VaultState}
use Rattle.glacier_vault.proofs.KeepsLawful.{lawful_there}
use Rattle.glacier_upload.specs.Bodies.{is_same}
use Rattle.glacier_upload.specs.Completion.{covered, part_leaves, cover_refusal, complete_refusal, complete_row, archive_before, whole_archive, with_completed}
use Rattle.glacier_upload.specs.Covers.{HoldsJust}
use Rattle.glacier_upload.proofs.CompletionRow.{accepted_parts, covers_just, by_vault, by_answer, by_upload, by_refusal}
use Rattle.glacier_upload.proofs.CoversLemmas.{holds_just}
use Rattle.glacier_upload.proofs.DrawLemmas.{drawn_left, left_drawn}
use Rattle.glacier_upload.proofs.UploadMaps.{upload_there}

none_refused : (a : AccountState) (upload : Upload) (size : ℕ) (tree : List ℕ) → cover_refusal upload size ≡ None → root_of_digests (part_leaves upload) ≡ tree → draw_refusal a ≡ None → complete_refusal a upload size tree ≡ None
none_refused a upload size tree covers is draw =
    let same : is_same (root_of_digests (part_leaves upload)) tree ≡ true = subst (λ t. is_same (root_of_digests (part_leaves upload)) t ≡ true) is (nat_list_eq_equiv.refl (root_of_digests (part_leaves upload))) in
    ap (λ (r : Option Refusal). elim r as (λ _. Option Refusal) [ Some refusal ↦ Some refusal | None ↦ cond (not (is_same (root_of_digests (part_leaves upload)) tree)) (Some (TreeMismatch (root_of_digests (part_leaves upload)) tree)) (draw_refusal a) ]) covers
    ∙ ap (λ b. cond (not b) (Some (TreeMismatch (root_of_digests (part_leaves upload)) tree)) (draw_refusal a)) same
    ∙ draw

module _ (a : AccountState) (m : ℕ) (name : List ℕ) (number size : ℕ) (tree : List ℕ) (vault : VaultState) (upload : Upload) (lawful : IsLawful a)
    (there : map.get a.vaults name ≡ Some vault) (is_open : map.get vault.uploads number ≡ Some upload) where
  right_vault : IsLawfulVault a.counter a.last vault
  right_vault = lawful_there a a.counter a.last (omega arith) (omega arith) lawful name vault there

  right : IsLawfulUpload a.last upload
  right = (upload_there a.counter a.last vault right_vault number upload is_open).right

  -- an open upload wasn't completed before
  not_finished : map.get vault.finished number ≡ None
  not_finished = at (map.get vault.finished number) refl
    where
      at : (r : Option Finished) → map.get vault.finished number ≡ r → map.get vault.finished number ≡ None
      at None e = e
      at (Some f) e = let gone = right_vault.open_or_finished number (subst IsSome (sym e) refl) in cc

  abbrev before : Option Finished → Option ℕ
  before r = elim r [ None ↦ None | Some f ↦ cond (nat_eq f.size size && is_same f.tree tree) (Some f.archive) None ]

  row_is : complete_row a m name number size tree ≡ by_refusal a m name number size tree upload (complete_refusal a upload size tree)
  row_is =
      ap (by_vault a m name number size tree) there
      ∙ ap (λ r. by_answer a m name number size tree vault (before r)) not_finished
      ∙ ap (by_upload a m name number size tree) is_open

  pub accepted_exactly : IsOk (complete_row a m name number size tree) ↔ HoldsJust upload size × (root_of_digests (part_leaves upload) ≡ tree) × (a.counter ≢ counter_end)
  accepted_exactly = (to, of)
    where
      none_of : (r : Option Refusal) → complete_refusal a upload size tree ≡ r → IsOk (by_refusal a m name number size tree upload r) → complete_refusal a upload size tree ≡ None
      none_of None e ok = e
      none_of (Some refusal) e ok = cc

      to : IsOk (complete_row a m name number size tree) → HoldsJust upload size × (root_of_digests (part_leaves upload) ≡ tree) × (a.counter ≢ counter_end)
      to ok =
          let none = none_of (complete_refusal a upload size tree) refl (subst IsOk row_is ok) in
          let parts = accepted_parts a upload size tree none in
          ((holds_just a.last upload right size).0 parts.0, parts.1, drawn_left a parts.2)

      of : HoldsJust upload size × (root_of_digests (part_leaves upload) ≡ tree) × (a.counter ≢ counter_end) → IsOk (complete_row a m name number size tree)
      of h =
          let none = none_refused a upload size tree ((holds_just a.last upload right size).1 h.0) h.1 (left_drawn a h.2) in
          subst IsOk (sym (row_is ∙ ap (by_refusal a m name number size tree upload) none)) refl

-- a finished upload of just this size and tree hash
finished_same : (size : ℕ) (tree : List ℕ) (finished : Finished) → finished.size ≡ size → finished.tree ≡ tree → (nat_eq finished.size size && is_same finished.tree tree) ≡ true
finished_same size tree finished same_size same_tree =
    ap (λ b. b && is_same finished.tree tree) (eq-eqb finished.size size same_size)
    ∙ subst (λ t. is_same finished.tree t ≡ true) same_tree (nat_list_eq_equiv.refl finished.tree)

module _ (a : AccountState) (m later : ℕ) (name : List ℕ) (number size : ℕ) (tree : List ℕ) where
  -- what a completion is answered again
  abbrev IsRepeated : AccountState → ℕ → Type 0
  IsRepeated after archive = complete_row after later name number size tree ≡ Ok (after, (archive, no_change))

  module _ (vault : VaultState) (there : map.get a.vaults name ≡ Some vault) where
    found_before : (archive : ℕ) → archive_before vault number size tree ≡ Some archive → IsRepeated a archive
    found_before archive e = ap (by_vault a later name number size tree) there ∙ ap (by_answer a later name number size tree vault) e

    module _ (upload : Upload) (accepted : complete_refusal a upload size tree ≡ None) where
      abbrev completed : VaultState → VaultState
      completed = with_completed number a.counter (whole_archive m upload)

      abbrev finished : Finished
      finished = record { at = m; size = covered upload; tree = root_of_digests (part_leaves upload); archive = a.counter }

      answered : archive_before (completed vault) number size tree ≡ Some a.counter
      answered =
          let parts = accepted_parts a upload size tree accepted in
          let at_number : map.get (map.insert vault.finished number finished) number ≡ Some finished =
          map.get-insert nat_cmp_total vault.finished number finished number ∙ ap (λ b. cond b (Some finished) (map.get vault.finished number)) ((eq_by_cmp_equiv nat_cmp_total).refl number) in
          ap (λ r. elim r as (λ _. Option ℕ) [ None ↦ None | Some f ↦ cond (nat_eq f.size size && is_same f.tree tree) (Some f.archive) None ]) at_number
          ∙ ap (λ b. cond b (Some a.counter) None) (finished_same size tree finished (covers_just upload size parts.0).1 parts.1)

      vault_after : map.get (changed_at completed a.vaults name) name ≡ Some (completed vault)
      vault_after = get-changed_at nat_list_cmp_total completed a.vaults name name
          ∙ ap (λ b. cond b (option_map completed (map.get a.vaults name)) (map.get a.vaults name)) ((eq_by_cmp_equiv nat_list_cmp_total).refl name)
          ∙ ap (option_map completed) there

      abbrev after : AccountState
      after = in_vault (drawn a) m name completed

      completed_before : IsRepeated after a.counter
      completed_before = ap (by_vault after later name number size tree) vault_after ∙ ap (by_answer after later name number size tree (completed vault)) answered

  module _ (after : AccountState) (archive : ℕ) (change : Change) where
    in_refusal : (vault : VaultState) → map.get a.vaults name ≡ Some vault → (upload : Upload) (r : Option Refusal) → complete_refusal a upload size tree ≡ r
        → by_refusal a m name number size tree upload r ≡ Ok (after, (archive, change)) → IsRepeated after archive
    in_refusal vault there upload (Some refusal) e h = cc
    in_refusal vault there upload None e h =
        let same : ◌≡◌ {A = AccountState × (ℕ × Change)} (in_vault (drawn a) m name (with_completed number a.counter (whole_archive m upload)), (a.counter, changed (events.Complete name number))) (after, (archive, change)) = cc in
        subst (λ p. complete_row p.0 later name number size tree ≡ Ok (p.0, (p.1.0, no_change))) same (completed_before vault there upload e)

    in_upload : (vault : VaultState) → map.get a.vaults name ≡ Some vault → (r : Option Upload) → by_upload a m name number size tree r ≡ Ok (after, (archive, change)) → IsRepeated after archive
    in_upload vault there None h = cc
    in_upload vault there (Some upload) h = in_refusal vault there upload (complete_refusal a upload size tree) refl h

    in_answer : (vault : VaultState) → map.get a.vaults name ≡ Some vault → (r : Option ℕ) → archive_before vault number size tree ≡ r
        → by_answer a m name number size tree vault r ≡ Ok (after, (archive, change)) → IsRepeated after archive
    in_answer vault there (Some before) e h =
        let same : ◌≡◌ {A = AccountState × (ℕ × Change)} (a, (before, no_change)) (after, (archive, change)) = cc in
        subst (λ p. complete_row p.0 later name number size tree ≡ Ok (p.0, (p.1.0, no_change))) same (found_before vault there before e)
    in_answer vault there None e h = in_upload vault there (map.get vault.uploads number) h

    in_account : (r : Option VaultState) → map.get a.vaults name ≡ r → by_vault a m name number size tree r ≡ Ok (after, (archive, change)) → IsRepeated after archive
    in_account None there h = cc
    in_account (Some vault) there h = in_answer vault there (archive_before vault number size tree) refl h

    pub repeated : complete_row a m name number size tree ≡ Ok (after, (archive, change)) → IsRepeated after archive
    repeated = in_account (map.get a.vaults name) refl
