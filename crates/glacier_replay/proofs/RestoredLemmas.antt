-- What is restored of a record, from what each call leaves.
use Rattle.std.specs.Prelude.{◌≡◌, ◌↔◌, ℕ, Bool, true, false, ◌&&◌, not, List, [], ◌∷◌, Option, Some, None, Result, Ok, Err, IfOk, IsTrue, length, nat_eq}
use Rattle.std.specs.FinMap as map
use Rattle.std.specs.Option.{option_map}
use Rattle.std.proofs.Common.{sym, ◌∙◌, ap, subst, refl, arith}
use Rattle.std.proofs.lemmas.Bool.{eqb-true}
use Rattle.glacier_bodies.specs.BlobAreas.{with_blob}
use Rattle.glacier_bodies.specs.Stands.{AreApart, Layouts, at_blob}
use Rattle.glacier_extents.specs.declared.run.Run.{Run}
use Rattle.glacier_extents.specs.FreeRuns.{blocks, AllIn}
use Rattle.glacier_extents.specs.Runs.{has_block, block_count, AreDistinct}
use Rattle.glacier_vault.specs.declared.event.Event.{Event}
use Rattle.glacier_vault.specs.declared.state.AccountState.{AccountState}
use Rattle.glacier_replay.specs.declared.replaying.Replayed.{Replayed}
use Rattle.glacier_vault.specs.Accounts.{Accounts, account_in}
use Rattle.glacier_replay.specs.Changes.{accounts_after, blobs_after, body_in, change_in, leaf_count, new_blob, with_new, without_blobs}
use Rattle.glacier_replay.specs.Made.{BlocksFit, Holdings, IsRest, after_event}
use Rattle.glacier_replay.specs.Replayed.{Replay, answer_of, left_by, replayed}
use Rattle.glacier_replay.proofs.PutLemmas.{put_over}
use Rattle.glacier_replay.proofs.RestLemmas.{apart_with, free_unnamed, rest_with, unnamed_free}

abbrev its_leaves : Event → Option (List (List ℕ))
its_leaves event = option_map (λ told. told.1) (body_in event)

-- the leaves that were found are those of the event's body
pub told_leaves : (event : Event) (leaves : List (List ℕ)) → Some leaves ≡ its_leaves event → leaf_count event ≡ length leaves
told_leaves event leaves = at (body_in event)
  where
    at : (r : Option (ℕ × List (List ℕ))) → Some leaves ≡ option_map (λ told. told.1) r → (elim r as (λ _. ℕ) [ None ↦ 0 | Some told ↦ length told.1 ]) ≡ length leaves
    at None e = cc
    at (Some told) e = let same : leaves ≡ told.1 = cc in ap length (sym same)

no_leaves : (event : Event) → None ≡ its_leaves event → leaf_count event ≡ 0
no_leaves event = at (body_in event)
  where
    at : (r : Option (ℕ × List (List ℕ))) → None ≡ option_map (λ told. told.1) r → (elim r as (λ _. ℕ) [ None ↦ 0 | Some told ↦ length told.1 ]) ≡ 0
    at None e = refl
    at (Some told) e = cc

-- an event without a body has no blocks
pub none_fit : (layouts : Layouts) (event : Event) (runs : List Run) → None ≡ its_leaves event → (empty : Bool) → empty ≡ nat_eq (length runs) 0 → (IsTrue empty → BlocksFit layouts event runs) × (BlocksFit layouts event runs → IsTrue empty)
none_fit layouts event [] none empty is = (
  λ _. record { count = sym (no_leaves event none); distinct = tt; unnamed = λ a n other there b its. cc },
  λ _. is,
)
none_fit layouts event (run ∷ runs) none empty is = (
  λ yes. absurd (omega (arith, eqb-true (length (run ∷ runs)) 0 (sym is ∙ yes))),
  λ fits. absurd (omega (arith, fits.count, no_leaves event none, fits.distinct.0)),
)

-- blocks that were marked fit, and those that fit were
pub marked_fit : {E : Type 0} (result : Result Bool E) (free : List Run) (layouts : Layouts) (event : Event) (runs own : List Run) → own ≡ runs → IsRest free layouts → block_count runs ≡ leaf_count event
    → IfOk result (λ marked. IsTrue marked ↔ (AreDistinct blocks own × AllIn free own)) → IfOk result (λ taken. IsTrue taken ↔ BlocksFit layouts event runs)
marked_fit (Err e) free layouts event runs own same rest count marked = tt
marked_fit (Ok b) free layouts event runs own same rest count marked = (
  λ yes.
      let both = subst (λ (l : List Run). AreDistinct blocks l × AllIn free l) same (marked.0 yes) in
      record { count = count; distinct = both.0; unnamed = free_unnamed free layouts rest runs both.1 },
  λ fits. marked.1 (subst (λ (l : List Run). AreDistinct blocks l × AllIn free l) (sym same) (fits.distinct, unnamed_free free layouts rest runs fits.distinct fits.unnamed)),
)

-- and the free blocks are still the rest
pub marked_rest : {E : Type 0} (result : Result Bool E) (free new : List Run) (layouts after : Layouts) (account : List ℕ) (number : ℕ) (own : List Run) → IsRest free layouts → at_blob layouts account number ≡ None
    → IfOk result (λ marked. IsTrue marked → after ≡ with_blob layouts account number own)
    → IfOk result (λ marked. IsTrue marked → (b : ℕ) → has_block new b ≡ (has_block free b && not (has_block own b)))
    → IfOk result (λ marked. IsTrue marked → IsRest new after)
marked_rest (Err e) free new layouts after account number own rest fresh named taken = tt
marked_rest (Ok b) free new layouts after account number own rest fresh named taken = λ yes.
    subst (λ (l : Layouts). IsRest new l) (sym (named yes)) (rest_with free layouts rest account number own new fresh (taken yes))

-- blobs stay apart
pub apart_new : (layouts after : Layouts) (account : List ℕ) (number : ℕ) (event : Event) (runs : List Run) → AreApart layouts → BlocksFit layouts event runs → after ≡ with_new layouts account (new_blob number event runs) → AreApart after
apart_new layouts after account number event runs apart fits is = subst AreApart (sym is) (at (body_in event))
  where
    at : (r : Option (ℕ × List (List ℕ))) → AreApart (with_new layouts account (elim r as (λ _. Option (ℕ × List Run)) [ None ↦ None | Some told ↦ Some (number, runs) ]))
    at None = apart
    at (Some told) = apart_with layouts account number runs apart fits.distinct fits.unnamed

-- an event that was done again fits, and left what it was to leave
fitted_answer : (r : Replay) (answer : Replayed) → answer ≡ answer_of r → answer.fits ≡ true → (done : AccountState × List ℕ) × (r ≡ Some done) × (answer.freed ≡ done.1)
fitted_answer None answer is fits = let no : false ≡ true = sym (ap (λ (a : Replayed). a.fits) is) ∙ fits in cc
fitted_answer (Some done) answer is fits = (done, refl, ap (λ (a : Replayed). a.freed) is)

module _ (held : Holdings) (account : List ℕ) (m : ℕ) (event : Event) (runs : List Run) (before state : AccountState) (answer : Replayed) (taken put : Accounts) (mid after : Layouts)
    (was : before ≡ account_in held.accounts account) (answers : answer ≡ answer_of (replayed before m event)) (fits : answer.fits ≡ true) (left : state ≡ left_by before (replayed before m event))
    (took : taken ≡ map.remove held.accounts account) (puts : put ≡ map.insert taken account state)
    (named : mid ≡ with_new held.layouts account (new_blob before.counter event runs)) (gone : after ≡ without_blobs mid account answer.freed) where
  pub done_again : ◌≡◌ {A = Holdings} (record { accounts = put; layouts = after }) (after_event held account m event runs)
  done_again =
      let change : replayed before m event ≡ change_in held.accounts account m event = ap (λ (a : AccountState). replayed a m event) was in
      let done = fitted_answer (change_in held.accounts account m event) answer (answers ∙ ap answer_of change) fits in
      let its_state : state ≡ done.0.0 = left ∙ ap (left_by before) (change ∙ done.1) in
      let accounts : put ≡ accounts_after held.accounts account (change_in held.accounts account m event) =
      puts ∙ ap (λ (a : Accounts). map.insert a account state) took ∙ put_over held.accounts account state ∙ ap (λ (s : AccountState). map.insert held.accounts account s) its_state
      ∙ ap (accounts_after held.accounts account) (sym done.1) in
      let layouts : after ≡ blobs_after held.layouts account (new_blob (account_in held.accounts account).counter event runs) (change_in held.accounts account m event) =
      gone ∙ ap (λ (l : Layouts). without_blobs l account answer.freed) (named ∙ ap (λ (a : AccountState). with_new held.layouts account (new_blob a.counter event runs)) was)
      ∙ ap (without_blobs (with_new held.layouts account (new_blob (account_in held.accounts account).counter event runs)) account) done.2
      ∙ ap (blobs_after held.layouts account (new_blob (account_in held.accounts account).counter event runs)) (sym done.1) in
      λ i. record { accounts = accounts i; layouts = layouts i }
