-- The room in the journal that an upload's event takes with its body.
use Rattle.std.proofs.Common.{◌≡◌, ℕ, ◌+◌, ◌<◌, ◌^◌, List, length, Option, Some, None, refl, ap, arith}
use Rattle.std.specs.Int.{div_ceil}
use Rattle.glacier_extents.specs.declared.run.Run.{Run}
use Rattle.glacier_extents.specs.Places.{block_size}
use Rattle.glacier_extents.specs.Runs.{block_count}
use Rattle.glacier_store.specs.Calls.{event_at, record_room}
use Rattle.glacier_machine.specs.ArchiveSteps.{archive_step}
use Rattle.glacier_machine.specs.Outcomes.{events_of}
use Rattle.glacier_machine.specs.Steps.{Step, only_replies, storing, with_event}
use Rattle.glacier_store.specs.Endings.{room_with}
use Rattle.glacier_upload.specs.Single.{upload_refusal}
use Rattle.glacier_upload.specs.declared.asks.UploadAsk.{UploadAsk}
use Rattle.glacier_vault.specs.declared.refusal.Refusal.{Refusal}
use Rattle.glacier_vault.specs.declared.rules.Rules.{Rules}
use Rattle.glacier_vault.specs.declared.state.AccountState.{AccountState}
use Rattle.glacier_machine.specs.ArchiveSteps.{found_in, upload_step}
use Rattle.glacier_replies.specs.Replies.{refused}
use Rattle.glacier_vault.specs.Accounts.{AccountEvent}
use Rattle.glacier_vault.specs.declared.event.Event.{Event}
use Rattle.glacier_server.specs.Rooms.{GrewBy, HasNoRoom, IsRoom}

-- a body that has some bytes lies in as many blocks as it needs
module _ (own : List Run) (account : List ℕ) (m : ℕ) (body : List ℕ) (some : 0 < length body)
    (blocks : block_count own ≡ div_ceil (length body) block_size) where
  room_is : (event : Event) → IsRoom (event_at account m event body) (record_room (event_at account m event body) own)
  room_is event = (own, blocks, λ none. absurd (omega (arith, some, ap length none)), refl)

  -- the events of a change with it
  abbrev events : Option Event → List AccountEvent
  events event = events_of account m event body

  pub grew_with : (before after : ℕ) (event : Option Event) → after ≡ before + room_with own (events event)
      → GrewBy before after (events event)
  grew_with before after None is = (0, refl, omega (arith, is))
  grew_with before after (Some event) is =
      let n = record_room (event_at account m event body) own in
      (n, (n, 0, room_is event, refl, omega arith), omega (arith, is))

  pub no_room_with : (length : ℕ) (event : Option Event) → 2 ^ 62 < length + room_with own (events event)
      → 0 < room_with own (events event) → HasNoRoom length (events event)
  no_room_with length None full room = absurd (omega (arith, room))
  no_room_with length (Some event) full room =
      (record_room (event_at account m event body) own, room_is event, omega (arith, full))

-- what an upload's event stores is the body
stored_events : (account : List ℕ) (m : ℕ) (body : List ℕ) (event : Option Event)
    → events_of account m event (with_event body event) ≡ events_of account m event body
stored_events account m body None = refl
stored_events account m body (Some event) = refl

-- the step of an upload, by why it isn't admitted
abbrev stepped : Rules → ℕ → UploadAsk → List ℕ → AccountState → Option Refusal → Step
stepped rules m ask body before refused_by = elim refused_by [
  | Some refusal ↦ only_replies before (refused refusal)
  | None ↦ storing body (upload_step rules m ask (found_in body) before)
]

stepped_events : (rules : Rules) (m : ℕ) (ask : UploadAsk) (body : List ℕ) (before : AccountState) (account : List ℕ)
    (r : Option Refusal)
    → events_of account m (stepped rules m ask body before r).answer.change.event (stepped rules m ask body before r).stored
    ≡ events_of account m (stepped rules m ask body before r).answer.change.event body
stepped_events rules m ask body before account (Some refusal) = refl
stepped_events rules m ask body before account None =
    stored_events account m body (upload_step rules m ask (found_in body) before).answer.change.event

pub archive_events : (rules : Rules) (m : ℕ) (ask : UploadAsk) (body : List ℕ) (before : AccountState) (account : List ℕ)
    → events_of account m (archive_step rules m ask body before).answer.change.event (archive_step rules m ask body before).stored
    ≡ events_of account m (archive_step rules m ask body before).answer.change.event body
archive_events rules m ask body before account =
    stepped_events rules m ask body before account (upload_refusal rules.quota before ask)
