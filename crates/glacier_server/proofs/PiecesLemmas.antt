-- A body that streams piece after piece.
use Rattle.std.proofs.Common.{◌≡◌, ℕ, ◌+◌, ◌*◌, ◌<◌, List, [], ◌++◌, length, sym, ap, subst, ◌∙◌, arith, length-append, append_assoc, append-nil}
use Rattle.std.proofs.Math.Nat.{add-mul}
use Rattle.std.specs.Prelude.{Result, Ok, Err, IfOk, IfErr}
use Rattle.glacier_bodies.proofs.BlobLemmas.{holds_nothing}
use Rattle.glacier_bodies.specs.Bodies.{HasTaken, body_runs}
use Rattle.glacier_bodies.specs.declared.body.Body.{Body}
use Rattle.glacier_disk.specs.declared.area.Area.TheVariants.{Blobs}
use Rattle.glacier_disk.specs.Told.{Told}
use Rattle.glacier_extents.specs.declared.run.Run.{Run}
use Rattle.glacier_store.specs.declared.store.Store.{Store}
use Rattle.glacier_server.specs.Does.{Failing}
use Rattle.glacier_server.specs.declared.upload_stream.StreamFault.{StreamFault}
use Rattle.glacier_server.specs.declared.upload_stream.Taken.{Taken}
use Rattle.glacier_server.specs.declared.upload_stream.Taken.TheVariants.{Piece, Part}
use Rattle.glacier_server.specs.Streams.{HasStreamed, HasTakenPiece, HasWritten, IsBroken, IsCut, IsFilled, IsLeft, IsStreamed, Stream, Streams, StreamsPart, TakesSome, Written, stream_of}
use Rattle.glacier_server.proofs.StreamLemmas.{over_none, over_then}

-- two counts of whole pieces
both : (a b n m piece : ℕ) → a ≡ n * piece → b ≡ m * piece → a + b ≡ (n + m) * piece
both a b n m piece first second = omega (arith, first, second, add-mul n m piece)

-- of a body that took nothing yet, nothing is to be written
pub none_written : (body : Body) (told : Told) → HasTaken body [] → HasWritten body [] told
none_written body told empty = record { taken = empty; lie = holds_nothing (body_runs body) (told.reads Blobs) }

-- before the first one
pub written_none : (store : Store) (body : Body) (missing piece : ℕ) (now : Told)
    → Written (stream_of store body [] missing piece) now now body missing
written_none store body missing piece now = record {
  rest = record { got = []; sum = omega arith; takes = over_none store now _ };
  written = λ before was. subst (λ (l : List ℕ). HasWritten body l now) (sym (append-nil before)) was;
  pieces = λ some. (0, omega arith);
}

-- more behind those that are written
abbrev pub rest_of : Stream → Body → ℕ → Stream
rest_of s body mid = stream_of s.store body [] mid s.piece

module _ {a b : Told} (s : Stream) (mid : ℕ) (body : Body) (first : Written s a b body mid) where
  streams_then : {c : Told} {left : ℕ} {failing : Failing} (second : Streams (rest_of s body mid) b c left failing) → Streams s a c left failing
  streams_then second =
      let g : List ℕ = first.rest.got in record {
        got = g ++ second.got;
        sum = omega (arith, first.rest.sum, second.sum, length-append g second.got);
        takes = over_then s.store g second.got (λ l. length l < s.missing) (λ l. length l < mid) first.rest.takes
            second.takes (λ l less. omega (arith, less, first.rest.sum, length-append g l));
      }

  all_of : (before more : List ℕ) → (before ++ (s.here ++ first.rest.got)) ++ more
      ≡ before ++ (s.here ++ (first.rest.got ++ more))
  all_of before more =
      append_assoc before (s.here ++ first.rest.got) more
      ∙ ap (λ (l : List ℕ). before ++ l) (append_assoc s.here first.rest.got more)

  pub written_then : {c : Told} {left : ℕ} (other : Body) → Written (rest_of s body mid) b c other left → Written s a c other left
  unfolding streams_then
  written_then {c = c} other second = record {
    rest = streams_then second.rest;
    written = λ before was. subst (λ (l : List ℕ). HasWritten other l c) (all_of before second.rest.got)
        (second.written (before ++ (s.here ++ first.rest.got)) (first.written before was));
    pieces = λ some.
        let one = first.pieces (omega (arith, some, second.rest.sum)) in
        let two = second.pieces some in (
          one.0 + two.0,
          ap length (sym (append_assoc s.here first.rest.got second.rest.got))
              ∙ length-append (s.here ++ first.rest.got) second.rest.got
              ∙ both _ _ one.0 two.0 s.piece one.1 two.1,
        );
  }

  pub part_then : {c : Told} {left : ℕ} {failing : Failing} → 0 < mid → body_runs body ≡ body_runs s.body
      → StreamsPart (rest_of s body mid) b c left failing → StreamsPart s a c left failing
  unfolding streams_then
  part_then {c = c} {failing = failing} some runs second = record {
    some = second.some;
    rest = streams_then second.rest;
    streamed = λ before n whole was.
        let one = first.pieces some in
        subst (λ (r : List Run). IsStreamed s.piece failing r (before ++ (s.here ++ (first.rest.got ++ second.rest.got))) (c.reads Blobs)) runs
        (subst (λ (l : List ℕ). IsStreamed s.piece failing (body_runs body) l (c.reads Blobs)) (all_of before second.rest.got)
        (second.streamed (before ++ (s.here ++ first.rest.got)) (n + one.0)
        (length-append before (s.here ++ first.rest.got) ∙ both _ _ n one.0 s.piece whole one.1) (first.written before was)));
  }

-- a stream, said otherwise
pub same_stream : (store : Store) (body : Body) (missing : ℕ) (here other : List ℕ) (piece size : ℕ) → here ≡ other
    → piece ≡ size → stream_of store body here missing piece ≡ stream_of store body other missing size
same_stream store body missing here other piece size same is =
    ap (λ (l : List ℕ). stream_of store body l missing piece) same
    ∙ ap (λ (n : ℕ). stream_of store body other missing n) is

-- what became of the first piece, by the whole stream
pub first_piece : (a b : Told) (body : Body) {s t : Stream} {x taken : Taken} → s ≡ t → x ≡ taken
    → HasTakenPiece s a b body x → HasTakenPiece t a b body taken
first_piece a b body {t = t} {x = x} same is took =
    subst (λ (y : Taken). HasTakenPiece t a b body y) is (subst (λ (y : Stream). HasTakenPiece y a b body x) same took)

-- what is left of a body behind a piece
pub is_left : (old : Body) (held missing : ℕ) (body : Body) {x taken : Taken} → x ≡ taken → IsLeft old held missing body x
    → IsLeft old held missing body taken
is_left old held missing body same left = subst (λ (y : Taken). IsLeft old held missing body y) same left

-- some bytes behind some others
pub some_then : (a b c : Body) → TakesSome a b → TakesSome b c → TakesSome a c
some_then a b c first second = (
  first.0 ++ second.0,
  record {
    taken = λ message was. subst (λ (l : List ℕ). HasTaken c l) (append_assoc message first.0 second.0)
        (second.1.taken (message ++ first.0) (first.1.taken message was));
    count = omega (arith, first.1.count, second.1.count, length-append first.0 second.0);
  },
)

pub some_none : (a : Body) → TakesSome a a
some_none a = (
  [],
  record {
    taken = λ message was. subst (λ (l : List ℕ). HasTaken a l) (sym (append-nil message)) was;
    count = omega arith;
  },
)

-- what is left of it behind the rest
pub filled_then : (a b c : Body) (held missing mid : ℕ) → IsLeft a held missing b (Piece mid)
    → (result : Result ℕ StreamFault) → IfOk result (IsFilled b c 0 mid) → IfOk result (IsFilled a c held missing)
filled_then a b c held missing mid left (Ok n) second = (
  omega (arith, left.0, second.0),
  λ none. let more = second.1 none in (omega (arith, left.2, more.0), some_then a b c left.4 more.1),
)
filled_then a b c held missing mid left (Err fault) second = tt

-- what becomes of a body behind pieces that are written, in pieces of as many bytes
module _ {a b : Told} (c : Told) (s : Stream) (mid : ℕ) (body : Body) (first : Written s a b body mid) (piece : ℕ)
    (is : piece ≡ s.piece) (some : 0 < mid) (runs : body_runs body ≡ body_runs s.body) where
  part_of : {left : ℕ} {failing : Failing} → StreamsPart (stream_of s.store body [] mid piece) b c left failing
      → StreamsPart s a c left failing
  part_of {left = left} {failing = failing} second =
      part_then s mid body first some runs
      (subst (λ (n : ℕ). StreamsPart (stream_of s.store body [] mid n) b c left failing) is second)

  all_of_it : {left : ℕ} (other : Body) → Written (stream_of s.store body [] mid piece) b c other left
      → Written s a c other left
  all_of_it {left = left} other second =
      written_then s mid body first other
      (subst (λ (n : ℕ). Written (stream_of s.store body [] mid n) b c other left) is second)

  any_piece : (other : Body) (taken : Taken) → HasTakenPiece (stream_of s.store body [] mid piece) b c other taken
      → HasTakenPiece s a c other taken
  any_piece other (Piece left) second = all_of_it other second
  any_piece other (Part left) second = (part_of second.0, second.1)

  pub piece_then : (other : Body) {x taken : Taken} → x ≡ taken
      → HasTakenPiece (stream_of s.store body [] mid piece) b c other x → HasTakenPiece s a c other taken
  piece_then other {x = x} same second =
      subst (λ (y : Taken). HasTakenPiece s a c other y) same (any_piece other x second)

  pub fault_then : (fault : StreamFault) → IsBroken (stream_of s.store body [] mid piece) b c fault
      → IsBroken s a c fault
  fault_then fault second = (second.0, part_of second.1)

  pub streamed_then : (other : Body) (result : Result ℕ StreamFault)
      → IfOk result (HasStreamed (stream_of s.store body [] mid piece) b c other) → IfOk result (HasStreamed s a c other)
  streamed_then other (Ok left) second = record {
    whole = λ none. all_of_it other (second.whole none);
    cut = λ more. let cut = second.cut more in (part_of cut.0, cut.1);
  }
  streamed_then other (Err fault) second = tt

  pub broken_then : (result : Result ℕ StreamFault) → IfErr result (IsBroken (stream_of s.store body [] mid piece) b c)
      → IfErr result (IsBroken s a c)
  broken_then (Ok left) second = tt
  broken_then (Err fault) second = fault_then fault second

-- a body that is whole, or at which the input ended, as the answer
pub all_streamed : {a b : Told} (s : Stream) (body : Body) (left n : ℕ) → left ≡ n → n ≡ 0 → Written s a b body left
    → HasStreamed s a b body n
all_streamed {a = a} {b = b} s body left n same none written = record {
  whole = λ zero. subst (λ (k : ℕ). Written s a b body k) same written;
  cut = λ more. absurd (omega (arith, more, none));
}

pub cut_streamed : {a b : Told} (s : Stream) (body : Body) (left : ℕ) → 0 < left → IsCut s a b left
    → HasStreamed s a b body left
cut_streamed s body left some cut = record { whole = λ none. absurd (omega (arith, none, some)); cut = λ more. cut }
