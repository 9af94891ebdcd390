-- What an upload makes of an account is what its event makes of it.
use Rattle.std.specs.FinMap as map
use Rattle.std.proofs.Common.{◌≡◌, ℕ, ◌≤◌, Bool, true, false, cond, ◌&&◌, not, List, [], ◌∷◌, length, Option, Some, None, Ok, Err, refl, sym, ◌∙◌, ap, subst, nat_eq, nat_lt, arith, eq-eqb}
use Rattle.std.proofs.lemmas.Bool.{le-leb}
use Rattle.std.proofs.lemmas.Bool.Decides.{nat_tests}
use Rattle.glacier_machine.specs.ArchiveSteps.{archive_step, found_in, upload_step}
use Rattle.glacier_machine.specs.Outcomes.{events_of}
use Rattle.glacier_machine.specs.Steps.{Step, only_replies, storing, with_event}
use Rattle.glacier_machine.specs.declared.action.Answer.{Answer}
use Rattle.glacier_replies.specs.Replies.{refused, uploaded}
use Rattle.glacier_treehash.specs.Leaves.{leaf_count, leaves_of}
use Rattle.glacier_treehash.specs.Tree.{mib}
use Rattle.glacier_treehash.proofs.LeavesLemmas.{length-digests}
use Rattle.glacier_upload.specs.Bodies.{body_refusal, room_refusal}
use Rattle.glacier_upload.specs.Single.{upload_refusal, upload_row, uploaded_archive, with_archive}
use Rattle.glacier_upload.specs.declared.asks.Found.{Found}
use Rattle.glacier_upload.specs.declared.asks.UploadAsk.{UploadAsk}
use Rattle.glacier_upload.specs.declared.single.TheConstants.{MOST_BYTES}
use Rattle.glacier_upload.proofs.DrawLemmas.{room_draws}
use Rattle.glacier_upload.proofs.SameText.{body_root}
use Rattle.glacier_vault.specs.Rows.{Row, changed, drawn, in_vault}
use Rattle.glacier_vault.specs.Totals.{need}
use Rattle.glacier_vault.specs.declared.event.Change.{Change}
use Rattle.glacier_vault.specs.declared.event.Event.{Event}
use Rattle.glacier_vault.specs.declared.event.Event.TheVariants as events
use Rattle.glacier_vault.specs.declared.refusal.Refusal.{Refusal}
use Rattle.glacier_vault.specs.declared.refusal.Refusal.TheVariants.{NoVault, Empty, TooLarge}
use Rattle.glacier_vault.specs.declared.rules.Rules.{Rules}
use Rattle.glacier_vault.specs.declared.state.AccountState.{AccountState}
use Rattle.glacier_replay.specs.Replayed.{Replay, can_draw, is_body, recorded_archive, where_fits}
use Rattle.glacier_store.specs.Steps.{IsMadeWith, change_events}
use Rattle.glacier_store.proofs.ActionLemmas.{number_left}
use Rattle.glacier_store.proofs.RowLemmas.{RowMakesWith, made_with, row_made_with}

module _ (quota : ℕ) (a : AccountState) (ask : UploadAsk) (admitted : upload_refusal quota a ask ≡ None) where
  -- an upload that isn't refused before its body has a vault, a byte and a number
  pub admitted_parts : (map.contains_key a.vaults ask.vault ≡ true) × (1 ≤ ask.size) × (room_refusal quota a ask.size ≡ None)
  admitted_parts = at (map.contains_key a.vaults ask.vault) (nat_lt ask.size 1) (nat_lt MOST_BYTES ask.size) refl refl admitted
    where
      at : (there empty large : Bool) → map.contains_key a.vaults ask.vault ≡ there → nat_lt ask.size 1 ≡ empty
          → cond (not there) (Some (NoVault ask.vault)) (cond empty (Some Empty) (cond large (Some (TooLarge ask.size MOST_BYTES)) (room_refusal quota a ask.size))) ≡ None
          → (map.contains_key a.vaults ask.vault ≡ true) × (1 ≤ ask.size) × (room_refusal quota a ask.size ≡ None)
      at false empty large t s e = cc
      at true true large t s e = cc
      at true false true t s e = cc
      at true false false t s e = (t, grind (arith, nat_tests), e)

  can : can_draw a ≡ true
  can = number_left a (room_draws quota a ask.size admitted_parts.2)

  -- so its event fits
  upload_fits : (leaves : List (List ℕ)) → length leaves ≡ need ask.size → (map.contains_key a.vaults ask.vault && is_body ask.size leaves && can_draw a) ≡ true
  upload_fits leaves count =
      ap (λ (b : Bool). b && is_body ask.size leaves && can_draw a) admitted_parts.0
      ∙ ap (λ (b : Bool). true && (b && nat_eq (length leaves) (need ask.size)) && can_draw a) (le-leb 1 ask.size admitted_parts.1)
      ∙ ap (λ (b : Bool). true && (true && b) && can_draw a) (eq-eqb (length leaves) (need ask.size) count)
      ∙ can

-- what is made by a row of an upload, by why its body is refused
abbrev of_body : AccountState → ℕ → UploadAsk → Found → Option Refusal → Row Change
of_body before m ask found r = elim r [
  | Some refusal ↦ Err refusal
  | None ↦ Ok (
    in_vault (drawn before) m ask.vault (with_archive before.counter (uploaded_archive before.counter m ask found)),
    changed (events.Upload ask.vault ask.size ask.description found.leaves),
  )
]

-- what it makes with an archive of this tree hash
abbrev with_tree : AccountState → ℕ → UploadAsk → Found → List ℕ → Replay
with_tree before m ask found tree = Some (
  in_vault (drawn before) m ask.vault (with_archive before.counter (record {
    size = ask.size;
    leaves = found.leaves;
    tree = tree;
    description = ask.description;
    created = m;
    blobs = before.counter ∷ [];
  })),
  [],
)

-- an admitted upload makes of an account what its event does, which has the leaves that were found
pub upload_made : (rules : Rules) (m : ℕ) (ask : UploadAsk) (found : Found) (before : AccountState) → before.last ≤ m → upload_refusal rules.quota before ask ≡ None
    → length found.leaves ≡ need ask.size
    → IsMadeWith (Some (ask.size, found.leaves)) before m (upload_step rules m ask found before).answer.change (upload_step rules m ask found before).state
upload_made rules m ask found before time admitted count =
    row_made_with (Some (ask.size, found.leaves)) before m (upload_row before m ask found) (uploaded rules ask.vault before.counter ask.tree)
    (row (body_refusal ask.linear ask.tree found) refl)
  where
    row : (r : Option Refusal) → body_refusal ask.linear ask.tree found ≡ r → RowMakesWith (Some (ask.size, found.leaves)) before m (of_body before m ask found r)
    row (Some refusal) e = tt
    row None e =
        made_with (Some (ask.size, found.leaves)) before m (events.Upload ask.vault ask.size ask.description found.leaves)
        (in_vault (drawn before) m ask.vault (with_archive before.counter (uploaded_archive before.counter m ask found))) [] time refl
        (ap
        (λ (b : Bool). where_fits b (in_vault (drawn before) m ask.vault (with_archive before.counter (recorded_archive before.counter m ask.size ask.description found.leaves)), []))
        (upload_fits rules.quota before ask admitted found.leaves count)
        ∙ ap (with_tree before m ask found) (body_root ask.linear ask.tree found e))

-- the same of what it leaves
pub uploaded_made : (rules : Rules) (m : ℕ) (ask : UploadAsk) (found : Found) (before after : AccountState) (answer : Answer) → before.last ≤ m → upload_refusal rules.quota before ask ≡ None
    → length found.leaves ≡ need ask.size → answer ≡ (upload_step rules m ask found before).answer → after ≡ (upload_step rules m ask found before).state
    → IsMadeWith (Some (ask.size, found.leaves)) before m answer.change after
uploaded_made rules m ask found before after answer time admitted count answer_is after_is =
    subst (λ (s : AccountState). IsMadeWith (Some (ask.size, found.leaves)) before m answer.change s) (sym after_is)
    (subst (λ (a : Answer). IsMadeWith (Some (ask.size, found.leaves)) before m a.change (upload_step rules m ask found before).state) (sym answer_is)
    (upload_made rules m ask found before time admitted count))

-- an admitted upload with its body, which its event stores
pub archive_is : (rules : Rules) (m : ℕ) (ask : UploadAsk) (body : List ℕ) (before : AccountState) → upload_refusal rules.quota before ask ≡ None
    → archive_step rules m ask body before ≡ storing body (upload_step rules m ask (found_in body) before)
archive_is rules m ask body before admitted =
    ap (λ (r : Option Refusal). elim r as (λ _. Step) [ Some refusal ↦ only_replies before (refused refusal) | None ↦ storing body (upload_step rules m ask (found_in body) before) ]) admitted

-- and with what was found of it
pub step_is : (rules : Rules) (m : ℕ) (ask : UploadAsk) (found : Found) (body : List ℕ) (before : AccountState) → upload_refusal rules.quota before ask ≡ None
    → found.linear ≡ (found_in body).linear → found.leaves ≡ leaves_of body → storing body (upload_step rules m ask found before) ≡ archive_step rules m ask body before
step_is rules m ask found body before admitted linear leaves =
    ap (λ (d : List ℕ). storing body (upload_step rules m ask (record { linear = d; leaves = found.leaves }) before)) linear
    ∙ ap (λ (l : List (List ℕ)). storing body (upload_step rules m ask (record { linear = (found_in body).linear; leaves = l }) before)) leaves
    ∙ sym (archive_is rules m ask body before admitted)

-- an upload with its body, by why it isn't admitted
abbrev of_admission : Rules → ℕ → UploadAsk → List ℕ → AccountState → Option Refusal → Step
of_admission rules m ask body before r = elim r [ Some refusal ↦ only_replies before (refused refusal) | None ↦ storing body (upload_step rules m ask (found_in body) before) ]

-- it makes of an account what its event with that body does
pub archive_made : (rules : Rules) (m : ℕ) (ask : UploadAsk) (body : List ℕ) (before : AccountState) → before.last ≤ m → length body ≡ ask.size
    → IsMadeWith (Some (length body, leaves_of body)) before m (archive_step rules m ask body before).answer.change (archive_step rules m ask body before).state
archive_made rules m ask body before time size = at (upload_refusal rules.quota before ask) refl
  where
    at : (r : Option Refusal) → upload_refusal rules.quota before ask ≡ r
        → IsMadeWith (Some (length body, leaves_of body)) before m (of_admission rules m ask body before r).answer.change (of_admission rules m ask body before r).state
    at (Some refusal) e = refl
    at None e =
        subst (λ (n : ℕ). IsMadeWith (Some (n, leaves_of body)) before m (upload_step rules m ask (found_in body) before).answer.change (upload_step rules m ask (found_in body) before).state) (sym size)
        (upload_made rules m ask (found_in body) before time e
        (omega (arith, length-digests mib (leaf_count (length body)) body, size, (admitted_parts rules.quota before ask e).1)))

-- an event stores the bytes that come with it
pub stored_events : (k : List ℕ) (m : ℕ) (event : Option Event) (body : List ℕ) → events_of k m event (with_event body event) ≡ events_of k m event body
stored_events k m None body = refl
stored_events k m (Some event) body = refl

-- what is answered, and the events that are kept
module _ (rules : Rules) (m : ℕ) (ask : UploadAsk) (found : Found) (body : List ℕ) (before : AccountState) (answer : Answer) (admitted : upload_refusal rules.quota before ask ≡ None)
    (linear : found.linear ≡ (found_in body).linear) (leaves : found.leaves ≡ leaves_of body) (is : answer ≡ (upload_step rules m ask found before).answer) where
  pub answer_is : answer ≡ (archive_step rules m ask body before).answer
  answer_is = is ∙ ap (λ (s : Step). s.answer) (step_is rules m ask found body before admitted linear leaves)

  pub events_are : change_events rules.account m answer.change body
      ≡ change_events rules.account m (archive_step rules m ask body before).answer.change (archive_step rules m ask body before).stored
  events_are =
      sym (stored_events rules.account m answer.change.event body)
      ∙ ap (λ (a : Answer). events_of rules.account m a.change.event (with_event body a.change.event)) is
      ∙ ap (λ (s : Step). events_of rules.account m s.answer.change.event s.stored) (step_is rules m ask found body before admitted linear leaves)
