-- What a server does with the body of an upload that nothing refuses before it.
use Rattle.std.specs.Prelude.{◌≡◌, ◌⊎◌, ℕ, ◌+◌, ◌<◌, ◌≤◌, List, [], ◌++◌, length, All, Result, Ok, Err}
use Rattle.glacier_disk.specs.declared.area.Area.TheVariants.{Blobs}
use Rattle.glacier_disk.specs.Network.{Wait, wait_of}
use Rattle.glacier_disk.specs.Told.{Told}
use Rattle.glacier_extents.specs.declared.run.Run.{Run}
use Rattle.glacier_http.specs.declared.reply.Reply.{Reply}
use Rattle.glacier_machine.specs.ArchiveSteps.{archive_step}
use Rattle.glacier_machine.specs.declared.action.Action.TheVariants as action
use Rattle.glacier_replay.specs.Changes.{State, after_all}
use Rattle.glacier_store.specs.Calls.{OnlyFree}
use Rattle.glacier_store.specs.Steps.{action_events}
use Rattle.glacier_store.specs.declared.store.Store.{Store}
use Rattle.glacier_upload.specs.declared.asks.UploadAsk.{UploadAsk}
use Rattle.glacier_vault.specs.Accounts.{AccountEvent, account_in}
use Rattle.glacier_vault.specs.declared.rules.Rules.{Rules}
use Rattle.glacier_server.specs.declared.end.ServeFault.{ServeFault}
use Rattle.glacier_server.specs.declared.end.ServeFault.TheVariants.{Disk, Memory, JournalEnd, Accept}
use Rattle.glacier_server.specs.declared.upload.BodyEnd.{BodyEnd}
use Rattle.glacier_server.specs.declared.upload.BodyEnd.TheVariants.{Done, Cut, Failed}
use Rattle.glacier_server.specs.Acts.{keeps}
use Rattle.glacier_server.specs.Does.{Failing, nothing, receiving, breaking}
use Rattle.glacier_server.specs.Machine.{IsPrintableIn}
use Rattle.glacier_server.specs.Placed.{Placed, placed_as}
use Rattle.glacier_server.specs.Rooms.{HasNoRoom}
use Rattle.glacier_server.specs.Session.{Session, IsFront}
use Rattle.glacier_server.specs.Streams.{IsStreamed}
use Rattle.glacier_server.specs.Transfer.{NoneComing, TakenAt, Transfer, current}

-- what is uploaded, to a store, by the rules of its account, at a moment: what was asked for, the first bytes of the body,
-- and how many are missing
pub record Upload : Type 0 where
  pub store : Store
  pub rules : Rules
  pub moment : ℕ
  pub ask : UploadAsk
  pub here : List ℕ
  pub missing : ℕ

abbrev pub upload_of : Store → Rules → ℕ → UploadAsk → List ℕ → ℕ → Upload
upload_of store rules m ask here missing =
    record { store = store; rules = rules; moment = m; ask = ask; here = here; missing = missing }

-- its events and its reply, where this is the body
abbrev pub events_with : Upload → List ℕ → List AccountEvent
events_with u body = action_events u.rules u.moment (action.Upload u.ask) body u.store.accounts

abbrev pub reply_with : Upload → List ℕ → Reply
reply_with u body =
    (archive_step u.rules u.moment u.ask body (account_in u.store.accounts u.rules.account)).answer.reply

-- bytes that are missing were taken, and so many still are; at each wait some were
pub record Came (u : Upload) (old : Told) (left : ℕ) : Type 0 where
  pub got : List ℕ
  pub sum : left + length got ≡ u.missing
  pub waits : List Wait
  pub each : All (TakenAt (wait_of (current old.connections)) got (λ front. length front < u.missing)) waits

-- what was done then, from this state to a store with its state: these events were kept
abbrev pub uploading : {u : Upload} {old : Told} {left : ℕ} → Came u old left → State → Placed → List AccountEvent → Session
uploading {u = u} came state after events = record {
  before = placed_as u.store state;
  after = after;
  taken = came.got;
  acts = keeps events;
  readings = [];
  waits = came.waits;
}

-- the whole body was taken, its events were kept, and then this is the reply
pub record HasUploaded (u : Upload) (old new : Told) (reply : Reply) (after : Store) : Type 0 where
  pub came : Came u old 0
  pub reply_is : reply ≡ reply_with u (u.here ++ came.got)
  pub transfer : (state : State) → Transfer old new (uploading came state (placed_as after (after_all state (events_with u (u.here ++ came.got))))
      (events_with u (u.here ++ came.got))) nothing

-- a part of the body was taken, and nothing was kept of it: only the free blocks may be others
pub record CutsUpload (u : Upload) (piece : ℕ) (old new : Told) (after : Store) (failing : Failing) : Type 0 where
  pub left : ℕ
  pub some : 0 < left
  pub came : Came u old left
  pub same : OnlyFree u.store after
  pub transfer : (state : State) → Transfer old new (uploading came state (placed_as after state) []) failing
  pub streamed : (runs : List Run) × IsStreamed piece failing runs (u.here ++ came.got) (new.reads Blobs)

-- how the body ended
abbrev pub HasEndedBody : Upload → ℕ → Told → Told → BodyEnd → Type 0
HasEndedBody u piece old new (Done reply after) = HasUploaded u old new reply after
HasEndedBody u piece old new (Cut left after) =
    (cut : CutsUpload u piece old new after nothing) × (cut.left ≡ left) × NoneComing new
HasEndedBody u piece old new (Failed after) = CutsUpload u piece old new after receiving

-- no more of its bytes are missing than were
abbrev pub IsWithinEnd : ℕ → BodyEnd → Type 0
IsWithinEnd missing (Done reply after) = Unit {0}
IsWithinEnd missing (Cut left after) = left ≤ missing
IsWithinEnd missing (Failed after) = Unit {0}

-- the reply can be printed where there is one
abbrev pub IsPrintableEnd : ℕ → BodyEnd → Type 0
IsPrintableEnd room (Done reply after) = IsPrintableIn room reply
IsPrintableEnd room (Cut left after) = Unit {0}
IsPrintableEnd room (Failed after) = Unit {0}

-- what failed
abbrev pub failing_at : Result BodyEnd ServeFault → Failing
failing_at (Ok (Done reply after)) = nothing
failing_at (Ok (Cut left after)) = nothing
failing_at (Ok (Failed after)) = receiving
failing_at (Err fault) = breaking

-- Why the server broke off: a call of the disk failed, before the body was whole or while its events were kept; or memory
-- was wanting, and none was kept; or the whole body was taken, and there was no room for its events.
abbrev pub BrokenUpload : {u : Upload} {old : Told} {left : ℕ} → ℕ → Told → Came u old left → List AccountEvent → ServeFault → Type 0
BrokenUpload {u = u} {left = left} piece new came kept Disk =
    ((kept ≡ []) × (runs : List Run) × IsStreamed piece breaking runs (u.here ++ came.got) (new.reads Blobs))
    ⊎ ((left ≡ 0) × IsFront kept (events_with u (u.here ++ came.got)))
BrokenUpload piece new came kept Memory = kept ≡ []
BrokenUpload {u = u} {left = left} piece new came kept (JournalEnd length) =
    (left ≡ 0) × IsFront kept (events_with u (u.here ++ came.got)) × (length ≡ u.store.journal.length)
    × HasNoRoom length (events_with u (u.here ++ came.got))
BrokenUpload piece new came kept Accept = ⊥

-- bytes of the body were taken, and then the server broke off, behind some first ones of these events at most
pub record BreaksUpload (u : Upload) (piece : ℕ) (old new : Told) (fault : ServeFault) : Type 0 where
  pub left : ℕ
  pub came : Came u old left
  pub kept : List AccountEvent
  pub transfer : (state : State) → (after : Placed) × Transfer old new (uploading came state after kept) breaking
  pub broken : BrokenUpload piece new came kept fault
