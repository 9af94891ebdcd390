-- A completion's event makes of the account what its row does.
use Rattle.std.specs.Prelude.{◌≡◌, ℕ, ◌≤◌, Bool, true, false, cond, not, ◌&&◌, List, [], Option, Some, None, nat_eq, nat_le}
use Rattle.std.specs.FinMap as map
use Rattle.std.proofs.Common.{◌∙◌, ap, refl, arith}
use Rattle.std.proofs.lemmas.Bool.{le-leb}
use Rattle.glacier_vault.specs.Account.{counter_end}
use Rattle.glacier_vault.specs.Rows.{drawn, in_vault, draw_refusal}
use Rattle.glacier_vault.specs.declared.archive.Upload.{Upload}
use Rattle.glacier_vault.specs.declared.event.Event.TheVariants as events
use Rattle.glacier_vault.specs.declared.refusal.Refusal.{Refusal}
use Rattle.glacier_vault.specs.declared.refusal.Refusal.TheVariants.{CounterEnd}
use Rattle.glacier_vault.specs.declared.state.AccountState.{AccountState}
use Rattle.glacier_vault.specs.declared.state.VaultState.{VaultState}
use Rattle.glacier_upload.specs.Completion.{archive_before, complete_refusal, complete_row, covered, has_gap, whole_archive, with_completed}
use Rattle.glacier_upload.specs.Frees.{change_of}
use Rattle.glacier_upload.proofs.CompletionRow.{accepted_parts, by_answer, by_refusal, by_upload, by_vault, covers_just}
use Rattle.glacier_replay.specs.Replayed.{Replay, after_event, can_draw, replays, where_fits, with_found}

module _ (a : AccountState) (m : ℕ) (name : List ℕ) (number size : ℕ) (tree : List ℕ) (some : 1 ≤ size) where
  module _ (vault : VaultState) (there : map.get a.vaults name ≡ Some vault) (upload : Upload) (is_open : map.get vault.uploads number ≡ Some upload) where
    -- the upload becomes an archive
    abbrev done : Bool → Replay
    done fits = where_fits fits (in_vault (drawn a) m name (with_completed number a.counter (whole_archive m upload)), [])

    abbrev of_upload : Option Upload → Replay
    of_upload r = with_found r (λ there. where_fits (nat_le 1 (covered there) && not (has_gap there) && can_draw a)
        (in_vault (drawn a) m name (with_completed number a.counter (whole_archive m there)), []))

    draws_one : draw_refusal a ≡ None → can_draw a ≡ true
    draws_one e = at (nat_eq a.counter counter_end) e
      where
        at : (b : Bool) → cond b (Some CounterEnd) None ≡ None → not b ≡ true
        at true h = cc
        at false h = refl

    three : (x y z : Bool) → x ≡ true → y ≡ false → z ≡ true → (x && not y && z) ≡ true
    three x y z p q r = ap (λ b. b && not y && z) p ∙ ap (λ b. not b && z) q ∙ r

    accepted : complete_refusal a upload size tree ≡ None → after_event a m (events.Complete name number) ≡ done true
    accepted none =
        let parts = accepted_parts a upload size tree none in
        let covers = covers_just upload size parts.0 in
        let enough : nat_le 1 (covered upload) ≡ true = le-leb 1 (covered upload) (omega (arith, some, covers.1)) in
        ap (λ r. with_found r (λ (vault : VaultState). of_upload (map.get vault.uploads number))) there
        ∙ ap of_upload is_open
        ∙ ap done (three (nat_le 1 (covered upload)) (has_gap upload) (can_draw a) enough covers.0 (draws_one parts.2))

    in_refusal : (r : Option Refusal) → complete_refusal a upload size tree ≡ r → replays a m (change_of (by_refusal a m name number size tree upload r))
    in_refusal (Some refusal) e = tt
    in_refusal None e = accepted e

  in_upload : (vault : VaultState) → map.get a.vaults name ≡ Some vault → (r : Option Upload) → map.get vault.uploads number ≡ r → replays a m (change_of (by_upload a m name number size tree r))
  in_upload vault there None e = tt
  in_upload vault there (Some upload) e = in_refusal vault there upload e (complete_refusal a upload size tree) refl

  in_answer : (vault : VaultState) → map.get a.vaults name ≡ Some vault → (r : Option ℕ) → replays a m (change_of (by_answer a m name number size tree vault r))
  in_answer vault there (Some _) = tt
  in_answer vault there None = in_upload vault there (map.get vault.uploads number) refl

  in_account : (r : Option VaultState) → map.get a.vaults name ≡ r → replays a m (change_of (by_vault a m name number size tree r))
  in_account None e = tt
  in_account (Some vault) e = in_answer vault e (archive_before vault number size tree)

  pub completion_replays : replays a m (change_of (complete_row a m name number size tree))
  completion_replays = in_account (map.get a.vaults name) refl
