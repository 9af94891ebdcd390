-- What the store's calls do for an upload: its body is opened, and once it is whole it ends.
use Rattle.std.specs.Prelude.{◌≡◌, ℕ, ◌≤◌, List, [], Result, IfOk, IsErrOf}
use Rattle.std.specs.Int.{div_ceil}
use Rattle.glacier_bodies.specs.BlobAreas.{IsOpen}
use Rattle.glacier_bodies.specs.Bodies.{HasTaken, body_room, body_runs}
use Rattle.glacier_bodies.specs.declared.body.Body.{Body}
use Rattle.glacier_disk.specs.Told.{Told}
use Rattle.glacier_extents.specs.declared.run.Run.{Run}
use Rattle.glacier_extents.specs.Places.{block_size}
use Rattle.glacier_extents.specs.Runs.{block_count}
use Rattle.glacier_http.specs.declared.reply.Reply.{Reply}
use Rattle.glacier_replay.specs.Changes.{State, after_all}
use Rattle.glacier_replay.specs.Made.{IsRest}
use Rattle.glacier_store.specs.Kept.{IsHeld, IsRestBeside, Kept}
use Rattle.glacier_store.specs.Steps.{accounts_after}
use Rattle.glacier_store.specs.declared.store.Store.{Store}
use Rattle.glacier_vault.specs.Accounts.{AccountEvent}
use Rattle.glacier_server.specs.declared.end.ServeFault.{ServeFault}
use Rattle.glacier_server.specs.declared.end.ServeFault.TheVariants.{Memory, JournalEnd}
use Rattle.glacier_server.specs.Events.{KeepsFirst}
use Rattle.glacier_server.specs.Rooms.{GrewBy, HasNoRoom}

-- the body was opened in blocks that no body and no blob has, as many as it needs
pub record HasOpened (old new : Store) (size : ℕ) (body : Body) : Type 0 where
  pub opened : IsOpen new.area (body_runs body)
  pub empty : HasTaken body []
  pub room : block_count (body_runs body) ≡ div_ceil size block_size
  pub fits : size ≤ body_room body
  pub beside : IsRest old.area.free old.area.blobs → IsRestBeside (body_runs body) new.area.free new.area.blobs

-- An upload whose body lies in these runs is done, and its events are kept, or the server breaks off. A crash meanwhile
-- leaves the state after some first ones; for want of memory none was kept, and where the journal was at its end, there was
-- no room for the first.
pub record EndsUpload (old new : Told) (store : Store) (own : List Run) (events : List AccountEvent)
    (result : Result (Reply × Store) ServeFault) : Type 0 where
  pub accounts : IfOk result (λ r. r.1.accounts ≡ accounts_after store.accounts events)
  pub grew : IfOk result (λ r. GrewBy store.journal.length r.1.journal.length events)
  pub any_moment : (state : State) → IsHeld old store state → KeepsFirst old new state events
  pub kept : (state : State) → IsHeld old store state → IsRestBeside own store.area.free store.area.blobs
      → IfOk result (λ r. Kept new r.1 (after_all state events))
  pub memory : (state : State) → IsHeld old store state → IsErrOf result Memory → KeepsFirst old new state []
  pub end : (length : ℕ) → IsErrOf result (JournalEnd length)
      → (length ≡ store.journal.length) × HasNoRoom length events
