-- Payloads with the record of an event more are those of the state after it.
use Rattle.std.specs.Prelude.{◌≡◌, ℕ, ◌≤◌, Bool, cond, List, [], ◌∷◌, ◌++◌, Option, Some, None, IfSome, Ok, length}
use Rattle.std.specs.FinMap as map
use Rattle.std.proofs.Common.{sym, ◌∙◌, ap, subst, refl, arith}
use Rattle.std.proofs.lemmas.Bool.{le-leb}
use Rattle.std.proofs.lemmas.Bool.Decides.{nat_tests}
use Rattle.glacier_bodies.specs.Blobs.{Holds}
use Rattle.glacier_bodies.specs.Stands.{AllHeld, Layouts}
use Rattle.glacier_extents.specs.declared.run.Run.{Run}
use Rattle.glacier_extents.specs.Runs.{block_count}
use Rattle.glacier_journal.specs.Listed.{Payloads}
use Rattle.glacier_records.specs.Spells.{Spells}
use Rattle.glacier_treehash.specs.Leaves.{leaves_of}
use Rattle.glacier_vault.specs.Lawful.{IsLawful}
use Rattle.glacier_vault.specs.Totals.{need}
use Rattle.glacier_vault.specs.declared.archive.Upload.{Upload}
use Rattle.glacier_vault.specs.declared.event.Change.{Change}
use Rattle.glacier_vault.specs.declared.event.Event.{Event}
use Rattle.glacier_vault.specs.declared.state.AccountState.{AccountState}
use Rattle.glacier_vault.specs.declared.state.VaultState.{VaultState}
use Rattle.glacier_upload.specs.Uploads.{open_upload}
use Rattle.glacier_upload.proofs.PartLemmas.{right_upload}
use Rattle.glacier_vault.specs.Accounts.{account_in, AccountEvent}
use Rattle.glacier_replay.specs.Changes.{IsBodyOf, State, accounts_after, after_account_event, blobs_after, body_in, change_in, leaf_count, new_blob}
use Rattle.glacier_replay.specs.Made.{Holdings, EventFits, after_event, nothing, record_of}
use Rattle.glacier_replay.specs.Replayed.{Replay, replays}
use Rattle.glacier_replay.specs.Replayed as replay
use Rattle.glacier_replay.specs.Standing.{InVault, IsStateOf, IsTold, Matches, Tells}
use Rattle.glacier_replay.proofs.CounterLemmas.{of_replayed}
use Rattle.glacier_replay.proofs.HeldLemmas.{held_after, matches_after}
use Rattle.glacier_replay.proofs.KeepLemmas.{leaves_fit, new_told, tells_after, told_before, with_body}
use Rattle.glacier_replay.proofs.MadeLemmas.{adds_record, leads-push}
use Rattle.glacier_replay.proofs.Options.{of_some, there_is}
use Rattle.glacier_replay.proofs.WholeLemmas.{told_whole}

-- an open upload, in its vault
pub of_open : {P : Type 0} (a : AccountState) (name : List ℕ) (number : ℕ) (upload : Upload) → open_upload a name number ≡ Some upload
    → ((vault : VaultState) → map.get a.vaults name ≡ Some vault → map.get vault.uploads number ≡ Some upload → P) → P
of_open {P} a name number upload e f = at (map.get a.vaults name) refl e
  where
    at : (r : Option VaultState) → map.get a.vaults name ≡ r → (elim r as (λ _. Option Upload) [ None ↦ None | Some vault ↦ map.get vault.uploads number ]) ≡ Some upload → P
    at None there e = cc
    at (Some vault) there e = f vault there e

-- as many blocks as the body's bytes take
enough : (event : Event) (runs : List Run) (body : List ℕ) → block_count runs ≡ leaf_count event → IsBodyOf event body → IfSome (body_in event) (λ its. length its.1 ≡ need its.0) → block_count runs ≡ need (length body)
enough event runs body count body_is fit = at (body_in event) count body_is fit
  where
    at : (r : Option (ℕ × List (List ℕ))) → block_count runs ≡ (elim r as (λ _. ℕ) [ None ↦ 0 | Some told ↦ length told.1 ])
        → (elim r as (λ _. Type 0) [ None ↦ body ≡ [] | Some told ↦ (told.0 ≡ length body) × (told.1 ≡ leaves_of body) ])
        → IfSome r (λ its. length its.1 ≡ need its.0) → block_count runs ≡ need (length body)
    at None count is fit = let none : need 0 ≡ 0 = omega arith in count ∙ sym none ∙ ap (λ l. need (length l)) (sym is)
    at (Some told) count is fit = count ∙ fit ∙ ap need is.0

module _ (payloads : Payloads) (payload : List ℕ) (layouts : Layouts) (content : List ℕ) (state : State) (h : AccountEvent) (runs : List Run)
    (lawful : IsLawful (account_in state.accounts h.account)) (is : IsStateOf payloads layouts content state) (spells : Spells payload (record_of h runs))
    (fits : EventFits (record { accounts = state.accounts; layouts = layouts }) h.account h.moment h.event runs)
    (body_is : IsBodyOf h.event h.body) (stored : Holds runs h.body content) where
  abbrev before : AccountState
  before = account_in state.accounts h.account

  abbrev held : Holdings
  held = record { accounts = state.accounts; layouts = layouts }

  module _ (done : AccountState × List ℕ) (done_is : change_in state.accounts h.account h.moment h.event ≡ Some done) where
    blocks_enough : block_count runs ≡ need (length h.body)
    blocks_enough = enough h.event runs h.body fits.blocks_fit.count body_is (leaves_fit before h.moment h.event done (of_replayed before h.moment h.event done done_is).1)

    tells_done : Tells (map.insert state.accounts h.account done.0) (blobs_after state.bodies h.account (new_blob before.counter h.event h.body) (Some done))
    tells_done = tells_after state.accounts state.bodies h.account lawful is.tells h.moment h.event h.body body_is done done_is (record {
      body = new_told state.accounts state.bodies h.account lawful is.tells h.moment h.event h.body body_is done done_is;
      whole = λ name number upload _ is_open no_gap some. of_open before name number upload is_open (λ vault there open_there.
          told_whole (with_body state.accounts state.bodies h.account lawful is.tells h.moment h.event h.body body_is done done_is) h.account before.last upload
          (right_upload before before.last (omega arith) lawful name vault there number upload open_there)
          (of_some (λ (u : Upload). (index : ℕ) → IfSome (map.get u.parts index) (λ part. IsTold (with_body state.accounts state.bodies h.account lawful is.tells h.moment h.event h.body body_is done done_is) h.account part.size part.leaves (part.blob ∷ []))) (map.get vault.uploads number) upload open_there ((of_some (InVault (IsTold (with_body state.accounts state.bodies h.account lawful is.tells h.moment h.event h.body body_is done done_is) h.account)) (map.get before.vaults name) vault there (told_before state.accounts state.bodies h.account lawful is.tells h.moment h.event h.body body_is done done_is name)).parts number))
          no_gap (grind (arith, nat_tests)));
    })

  pub state_after : IsStateOf (payloads ++ payload ∷ []) (after_event held h.account h.moment h.event runs).layouts content (after_account_event state h)
  state_after = there_is (change_in state.accounts h.account h.moment h.event) fits.fits (λ done done_is. record {
    made = leads-push payloads payload nothing held (after_event held h.account h.moment h.event runs) is.made (adds_record payload (record_of h runs) held spells fits);
    matches = subst (λ (r : Replay). Matches (blobs_after layouts h.account (new_blob before.counter h.event runs) r) (blobs_after state.bodies h.account (new_blob before.counter h.event h.body) r)) (sym done_is)
        (matches_after layouts state.bodies h.account before.counter h.event runs h.body done is.matches (blocks_enough done done_is));
    held = subst (λ (r : Replay). AllHeld (blobs_after layouts h.account (new_blob before.counter h.event runs) r) (blobs_after state.bodies h.account (new_blob before.counter h.event h.body) r) content) (sym done_is)
        (held_after layouts state.bodies h.account before.counter h.event runs h.body done content is.held stored);
    tells = subst (λ (r : Replay). Tells (accounts_after state.accounts h.account r) (blobs_after state.bodies h.account (new_blob before.counter h.event h.body) r)) (sym done_is) (tells_done done done_is);
  })

-- the event of an accepted row fits its account
pub accepted_fits : (state : State) (h : AccountEvent) (after : AccountState) (change : Change) → replays (account_in state.accounts h.account) h.moment (Ok (after, change))
    → change.event ≡ Some h.event → (account_in state.accounts h.account).last ≤ h.moment → change_in state.accounts h.account h.moment h.event ≡ Some (after, change.freed)
accepted_fits state h after change accepted event_is time =
    ap (λ (b : Bool). cond b (replay.after_event (account_in state.accounts h.account) h.moment h.event) None) (le-leb (account_in state.accounts h.account).last h.moment time)
    ∙ of_some _ change.event h.event event_is accepted
