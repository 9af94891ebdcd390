-- The rest of a body that streams from a connection into the blocks of an open body (docs/rules/blocks.md).
use Rattle.std.specs.Prelude.{◌≡◌, ℕ, ◌+◌, ◌*◌, ◌%◌, ◌<◌, ◌≤◌, List, ◌++◌, length, take, All, Result, Ok, Err}
use Rattle.glacier_bodies.specs.Blobs.{Holds}
use Rattle.glacier_bodies.specs.Bodies.{HasTaken, Takes, body_runs, body_taken}
use Rattle.glacier_bodies.specs.declared.body.Body.{Body}
use Rattle.glacier_disk.specs.declared.area.Area.TheVariants.{Blobs}
use Rattle.glacier_disk.specs.Network.{Wait, wait_of}
use Rattle.glacier_disk.specs.Told.{Told}
use Rattle.glacier_extents.specs.declared.run.Run.{Run}
use Rattle.glacier_extents.specs.Places.{block_size}
use Rattle.glacier_store.specs.declared.store.Store.{Store}
use Rattle.glacier_server.specs.declared.upload_stream.StreamFault.{StreamFault}
use Rattle.glacier_server.specs.declared.upload_stream.StreamFault.TheVariants.{Receive, Disk}
use Rattle.glacier_server.specs.declared.upload_stream.Taken.{Taken}
use Rattle.glacier_server.specs.declared.upload_stream.Taken.TheVariants.{Piece, Part}
use Rattle.glacier_server.specs.Does.{Failing, nothing, receiving, sending, breaking}
use Rattle.glacier_server.specs.Placed.{Placed}
use Rattle.glacier_server.specs.Session.{taking}
use Rattle.glacier_server.specs.Transfer.{NoneComing, TakenAt, Transfer, current}

-- a piece of so many bytes is made of whole blocks, and has room for so many
abbrev pub IsPieceFor : ℕ → ℕ → Type 0
IsPieceFor piece here = (0 < piece) × (piece % block_size ≡ 0) × (here ≤ piece)

-- what failed
abbrev pub failing_by : StreamFault → Failing
failing_by Receive = receiving
failing_by Disk = breaking

abbrev pub streaming_if : {T : Type 0} → Result T StreamFault → Failing
streaming_if (Ok x) = nothing
streaming_if (Err fault) = failing_by fault

-- Only bytes were taken, while whatever was kept by this journal and these blobs is kept, as at each moment since. At
-- each wait this held of the bytes taken till then.
pub record TakesOver (store : Store) (old new : Told) (got : List ℕ) (Holds : List ℕ → Type 0) (failing : Failing)
    : Type 0 where
  pub waits : List Wait
  pub transfer : (placed : Placed) → placed.store.journal ≡ store.journal
      → placed.store.area.blobs ≡ store.area.blobs → Transfer old new (taking placed got waits) failing
  pub each : All (TakenAt (wait_of (current old.connections)) got Holds) waits

-- what streams: into a body of this store, first these bytes, and then so many that are missing, in pieces of so many
pub record Stream : Type 0 where
  pub store : Store
  pub body : Body
  pub here : List ℕ
  pub missing : ℕ
  pub piece : ℕ

abbrev pub stream_of : Store → Body → List ℕ → ℕ → ℕ → Stream
stream_of store body here missing piece =
    record { store = store; body = body; here = here; missing = missing; piece = piece }

-- bytes that are missing were taken, and so many still are; at each wait some were
pub record Streams (s : Stream) (old new : Told) (left : ℕ) (failing : Failing) : Type 0 where
  pub got : List ℕ
  pub sum : left + length got ≡ s.missing
  pub takes : TakesOver s.store old new got (λ front. length front < s.missing) failing

-- the body took these bytes, and they lie in its blocks
pub record HasWritten (body : Body) (message : List ℕ) (told : Told) : Type 0 where
  pub taken : HasTaken body message
  pub lie : Holds (body_runs body) message (told.reads Blobs)

-- all bytes that were taken are written behind those that were; they are whole pieces, unless none is missing
pub record Written (s : Stream) (old new : Told) (body : Body) (left : ℕ) : Type 0 where
  pub rest : Streams s old new left nothing
  pub written : (before : List ℕ) → HasWritten s.body before old
      → HasWritten body (before ++ (s.here ++ rest.got)) new
  pub pieces : 0 < left → (n : ℕ) × (length (s.here ++ rest.got) ≡ n * s.piece)

-- so many bytes behind the pieces that are written: less than one, or one that the disk failed to write
abbrev pub IsUnwritten : Failing → ℕ → ℕ → Type 0
IsUnwritten nothing more piece = more < piece
IsUnwritten receiving more piece = more < piece
IsUnwritten sending more piece = more < piece
IsUnwritten breaking more piece = more ≤ piece

-- all whole pieces of what was taken lie in these runs, but for one that the disk failed to write
pub record IsStreamed (piece : ℕ) (failing : Failing) (runs : List Run) (taken blobs : List ℕ) : Type 0 where
  pub pieces : ℕ
  pub more : ℕ
  pub sum : length taken ≡ pieces * piece + more
  pub unwritten : IsUnwritten failing more piece
  pub lie : Holds runs (take (pieces * piece) taken) blobs

-- some bytes are missing, unless the disk failed
abbrev pub IsMissing : Failing → ℕ → Type 0
IsMissing nothing left = 0 < left
IsMissing receiving left = 0 < left
IsMissing sending left = 0 < left
IsMissing breaking left = Unit {0}

-- a part of the body was taken, behind whole pieces that were written
pub record StreamsPart (s : Stream) (old new : Told) (left : ℕ) (failing : Failing) : Type 0 where
  pub some : IsMissing failing left
  pub rest : Streams s old new left failing
  pub streamed : (before : List ℕ) (n : ℕ) → length before ≡ n * s.piece → HasWritten s.body before old
      → IsStreamed s.piece failing (body_runs s.body) (before ++ (s.here ++ rest.got)) (new.reads Blobs)

-- the input ended in the body
abbrev pub IsCut : Stream → Told → Told → ℕ → Type 0
IsCut s old new left = StreamsPart s old new left nothing × NoneComing new

-- a fault cut the body off
abbrev pub IsBroken : Stream → Told → Told → StreamFault → Type 0
IsBroken s old new fault = (left : ℕ) × StreamsPart s old new left (failing_by fault)

-- the whole body is written, or the input ended where so many bytes were missing
pub record HasStreamed (s : Stream) (old new : Told) (body : Body) (left : ℕ) : Type 0 where
  pub whole : left ≡ 0 → Written s old new body left
  pub cut : 0 < left → IsCut s old new left

-- a piece is written, or the input ended in it
abbrev pub HasTakenPiece : Stream → Told → Told → Body → Taken → Type 0
HasTakenPiece s old new body (Piece left) = Written s old new body left
HasTakenPiece s old new body (Part left) = IsCut s old new left

-- a body took some bytes
abbrev pub TakesSome : Body → Body → Type 0
TakesSome old new = (bytes : List ℕ) × Takes old new bytes

-- how many bytes are missing then of a body, of which there were so many in the buffer and so many missing
abbrev pub IsLeft : Body → ℕ → ℕ → Body → Taken → Type 0
IsLeft old held missing body (Piece left) =
    (left ≤ missing) × (left < held + missing) × (body_taken body + left ≡ body_taken old + (held + missing))
    × (0 < left → body_taken body % block_size ≡ 0) × TakesSome old body
IsLeft old held missing body (Part left) = (0 < left) × (left ≤ missing)

-- so many bytes are missing of a body, of which so many were, and where none is, it took those and these
abbrev pub IsFilled : Body → Body → ℕ → ℕ → ℕ → Type 0
IsFilled old new held missing left =
    (left ≤ missing) × (left ≡ 0 → (body_taken new ≡ body_taken old + (held + missing)) × TakesSome old new)
