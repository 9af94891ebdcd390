-- A piece of a body that streams: what was taken into the buffer, and what is written of it.
use Rattle.std.proofs.Common.{◌≡◌, ℕ, ◌+◌, ◌*◌, ◌%◌, ◌<◌, ◌≤◌, min, List, ◌++◌, length, take, refl, sym, ap, subst, ◌∙◌, arith, length-append}
use Rattle.std.proofs.lemmas.List.{length-take-le, take_all, take-append-le}
use Rattle.std.proofs.lemmas.Bool.{leb-true}
use Rattle.glacier_bodies.specs.Blobs.{Holds}
use Rattle.glacier_bodies.specs.Bodies.{HasTaken, Takes as BodyTakes, body_runs}
use Rattle.glacier_bodies.specs.declared.body.Body.{Body}
use Rattle.glacier_disk.specs.declared.area.Area.TheVariants.{Blobs}
use Rattle.glacier_disk.specs.Image.{Image}
use Rattle.glacier_disk.specs.Network.{wait_of}
use Rattle.glacier_disk.specs.Told.{Told, Lawful, ByDisk}
use Rattle.glacier_extents.specs.Places.{block_size}
use Rattle.glacier_extents.specs.declared.run.Run.{Run}
use Rattle.glacier_http.specs.declared.limits.TheConstants.{MOST_HEAD}
use Rattle.glacier_store.specs.Calls.{KeepsHeld}
use Rattle.glacier_store.specs.declared.store.Store.{Store}
use Rattle.glacier_server.specs.declared.buffers.TheConstants.{PIECE}
use Rattle.glacier_server.specs.Does.{Failing, nothing, breaking}
use Rattle.glacier_server.specs.Streams.{HasWritten, IsMissing, IsPieceFor, IsUnwritten, Stream, Streams, StreamsPart, TakesOver, Written, stream_of}
use Rattle.glacier_server.specs.Transfer.{TakenAt, TakesBehind, current}
use Rattle.glacier_server.proofs.SessionLemmas.{all_more}
use Rattle.glacier_server.proofs.StreamLemmas.{over_quiet, piece_broken, piece_written}

-- a piece of a connection's buffers is made of whole blocks, and has room for all that is unread
pub piece_for : (piece here : ℕ) → piece ≡ PIECE → here ≤ MOST_HEAD → IsPieceFor piece here
piece_for piece here is few = (
  subst (λ (n : ℕ). 0 < n) (sym is) (leb-true 1 PIECE refl),
  subst (λ (n : ℕ). n % block_size ≡ 0) (sym is) refl,
  subst (λ (n : ℕ). here ≤ n) (sym is) (within here MOST_HEAD PIECE few (leb-true MOST_HEAD PIECE refl)),
)
  where
    within : (a b d : ℕ) → a ≤ b → b ≤ d → a ≤ d
    within a b d one two = omega (arith, one, two)

-- what was written before is the front of all
front_is : (w : ℕ) (before more : List ℕ) → length before ≡ w → take w (before ++ more) ≡ before
front_is w before more is = take-append-le w before more (omega (arith, is)) ∙ take_all w before (omega (arith, is))

-- bytes came behind those that were there, up to some number of them
module _ {a b : Told} {failing : Failing} (s : Stream) (now : List ℕ) (end filled left : ℕ)
    (few : end ≤ length s.here + s.missing) (first : TakesBehind a b s.here now (λ l. length l < end) failing)
    (long : length now ≡ filled) (sum : left + filled ≡ length s.here + s.missing) where
  pub over_filled : TakesOver s.store a b first.got (λ l. length l < s.missing) failing
  over_filled = record {
    waits = first.takes.waits;
    transfer = λ placed journal blobs. first.takes.transfer placed;
    each = all_more (TakenAt (wait_of (current a.connections)) first.got (λ l. length (s.here ++ l) < end))
        (TakenAt (wait_of (current a.connections)) first.got (λ l. length l < s.missing)) first.takes.waits
        (λ w x. record {
          till = x.till;
          later = x.later;
          cut = x.cut;
          at = x.at;
          holds = omega (arith, few, x.holds, length-append s.here x.till);
        }) first.takes.each;
  }

  streams : {c : Told} {other : Failing} → TakesOver s.store a c first.got (λ l. length l < s.missing) other
      → Streams s a c left other
  streams over = record {
    got = first.got;
    sum = omega (arith, long, sum, ap length first.behind, length-append s.here first.got);
    takes = over;
  }

  -- they aren't written, and those before them are
  pub unwritten : {c : Told} (other : Failing)
      → TakesOver s.store a c first.got (λ l. length l < s.missing) other
      → ((before : List ℕ) → HasWritten s.body before a → Holds (body_runs s.body) before (c.reads Blobs))
      → IsUnwritten other filled s.piece → IsMissing other left → StreamsPart s a c left other
  unfolding streams
  unwritten {c = c} other over held less some = record {
    some = some;
    rest = streams over;
    streamed = λ before n whole was. record {
      pieces = n;
      more = filled;
      sum = length-append before (s.here ++ first.got)
          ∙ omega (arith, whole, long, ap length first.behind);
      unwritten = less;
      lie = subst (λ (l : List ℕ). Holds (body_runs s.body) l (c.reads Blobs))
          (sym (front_is (n * s.piece) before (s.here ++ first.got) whole)) (held before was);
    };
  }

  -- they are written
  pub written : {c : Told} (body : Body) (bytes : List ℕ) → bytes ≡ now
      → TakesOver s.store a c first.got (λ l. length l < s.missing) nothing → body_runs body ≡ body_runs s.body
      → BodyTakes s.body body bytes
      → ((before : List ℕ) → HasWritten s.body before a
      → Holds (body_runs s.body) (before ++ bytes) (c.reads Blobs))
      → (0 < left → filled ≡ s.piece) → Written s a c body left
  unfolding streams
  written {c = c} body bytes is over runs taken held full =
      let same : bytes ≡ s.here ++ first.got = is ∙ first.behind in record {
        rest = streams over;
        written = λ before was. record {
          taken = subst (λ (l : List ℕ). HasTaken body (before ++ l)) same (taken.taken before was.taken);
          lie = subst (λ (r : List Run). Holds r (before ++ (s.here ++ first.got)) (c.reads Blobs)) (sym runs)
              (subst (λ (l : List ℕ). Holds (body_runs s.body) (before ++ l) (c.reads Blobs)) same (held before was));
        };
        pieces = λ some. (1, omega (arith, full some, long, ap length first.behind));
      }

-- a piece in a buffer, from the bytes that stood at its front to its end
module _ {a b : Told} {failing : Failing} (store : Store) (body : Body) (old new : List ℕ)
    (held missing end filled left : ℕ) (is : end ≡ min (length old) (held + missing)) (room : held ≤ length old)
    (size : length new ≡ length old) (within : filled ≤ end) (sum : left + filled ≡ held + missing)
    (first : TakesBehind a b (take held old) (take filled new) (λ l. length l < end) failing)
    (same : b.reads ≡ a.reads) where
  stream : Stream
  stream = stream_of store body (take held old) missing (length old)

  here_is : length (take held old) ≡ held
  here_is = length-take-le held old room

  now_is : length (take filled new) ≡ filled
  now_is = length-take-le filled new (omega (arith, is, size, within))

  few : end ≤ length (take held old) + missing
  few = omega (arith, is, here_is)

  all : left + filled ≡ length (take held old) + missing
  all = omega (arith, sum, here_is)

  as_read : (runs : List Run) (before : List ℕ) → Holds runs before (a.reads Blobs) → Holds runs before (b.reads Blobs)
  as_read runs before lie = subst (λ (i : Image). Holds runs before (i Blobs)) (sym same) lie

  -- none of it is written where the input ended in it, or a receive failed
  pub stopped : IsUnwritten failing filled (length old) → IsMissing failing left
      → StreamsPart (stream_of store body (take held old) missing (length old)) a b left failing
  unfolding stream
  stopped less some =
      unwritten stream (take filled new) end filled left few first now_is all failing
      (over_filled stream (take filled new) end filled left few first now_is all)
      (λ before was. as_read (body_runs body) before was.lie) less some

module _ {a b c : Told} (store : Store) (body : Body) (old new : List ℕ)
    (held missing end filled left : ℕ) (is : end ≡ min (length old) (held + missing)) (room : held ≤ length old)
    (size : length new ≡ length old) (sum : left + filled ≡ held + missing)
    (full : filled ≡ end)
    (first : TakesBehind a b (take held old) (take filled new) (λ l. length l < end) nothing)
    (same : b.reads ≡ a.reads) (law : Lawful c) (alone : ByDisk b c)
    (keeps : KeepsHeld b c store.journal store.area.blobs (body_runs body)) where
  whole : Stream
  whole = stream_of store body (take held old) missing (length old)

  front_long : length (take held old) ≡ held
  front_long = length-take-le held old room

  all_long : length (take filled new) ≡ filled
  all_long = length-take-le filled new (omega (arith, is, size, full))

  -- the disk failed to write it
  pub not_written : ((before : List ℕ) → HasTaken body before → Holds (body_runs body) before (b.reads Blobs)
      → Holds (body_runs body) before (c.reads Blobs))
      → StreamsPart (stream_of store body (take held old) missing (length old)) a c left breaking
  unfolding whole
  not_written held_on =
      unwritten whole (take filled new) end filled left (omega (arith, is, front_long)) first all_long (omega (arith, sum, front_long)) breaking
      (over_quiet store first.got (λ l. length l < missing)
      (over_filled whole (take filled new) end filled left (omega (arith, is, front_long)) first all_long (omega (arith, sum, front_long)))
      (piece_broken law alone store (body_runs body) keeps))
      (λ before was. held_on before was.taken (subst (λ (i : Image). Holds (body_runs body) before (i Blobs)) (sym same) was.lie))
      (omega (arith, is, full)) tt

  -- it is written
  pub wrote : (now : Body) (bytes : List ℕ) → bytes ≡ take end new → body_runs now ≡ body_runs body
      → BodyTakes body now bytes
      → ((before : List ℕ) → HasTaken body before → Holds (body_runs body) before (b.reads Blobs)
      → Holds (body_runs body) (before ++ bytes) (c.reads Blobs))
      → Written (stream_of store body (take held old) missing (length old)) a c now left
  unfolding whole
  wrote now bytes are runs taken held_on =
      written whole (take filled new) end filled left (omega (arith, is, front_long)) first all_long (omega (arith, sum, front_long)) now bytes (are ∙ ap (λ (n : ℕ). take n new) (sym full))
      (over_quiet store first.got (λ l. length l < missing)
      (over_filled whole (take filled new) end filled left (omega (arith, is, front_long)) first all_long (omega (arith, sum, front_long)))
      (piece_written law alone store (body_runs body) keeps)) runs taken
      (λ before was. held_on before was.taken (subst (λ (i : Image). Holds (body_runs body) before (i Blobs)) (sym same) was.lie))
      (λ some. omega (arith, is, sum, full, some))
