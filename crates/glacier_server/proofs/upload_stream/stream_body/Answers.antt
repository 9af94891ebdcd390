use Rattle.std.proofs.Common.{rules, ◌≡◌, length, refl, arith}
use Rattle.glacier_server.specs.Streams.{stream_of}
use Rattle.glacier_server.proofs.PiecesLemmas.{same_stream, first_piece, is_left, streamed_then, broken_then, all_streamed, cut_streamed, filled_then}
use Rattle.glacier_server.proofs.upload_stream.stream_body.Goals as goal

pub returns-then-left-eq0-clause-streams : goal.returns-then-left-eq0-clause-streams
returns-then-left-eq0-clause-streams g c t =
    let size : length c.put_front.new.buffer ≡ length c.args.piece.now = search rules in
    all_streamed (stream_of c.args.store.now c.args.body.now c.args.here.now c.args.missing (length c.args.piece.now))
    c.next_piece.new.body c.in-Ok-Piece.left 0 c.if-left-eq0.true refl
    (first_piece (g.S.Disk.told c.args.station.now) (g.S.Disk.told c.next_piece.new.station) c.next_piece.new.body
    (same_stream c.args.store.now c.args.body.now c.args.missing _ c.args.here.now _ (length c.args.piece.now) c.put_front.ensures size)
    c.in-Ok-Piece.field-0-is (c.in-Ok-Piece.ensures.taken t))

pub returns-else-left-eq0-clause-streams : goal.returns-else-left-eq0-clause-streams
returns-else-left-eq0-clause-streams g c t =
    let size : length c.put_front.new.buffer ≡ length c.args.piece.now = search rules in
    let after : length c.next_piece.new.piece ≡ length c.args.piece.now = search rules in
    let whole = stream_of c.args.store.now c.args.body.now c.args.here.now c.args.missing (length c.args.piece.now) in
    streamed_then (g.S.Disk.told c.stream_rest.new.station) whole
    c.in-Ok-Piece.left c.next_piece.new.body
    (first_piece (g.S.Disk.told c.args.station.now) (g.S.Disk.told c.next_piece.new.station) c.next_piece.new.body
    (same_stream c.args.store.now c.args.body.now c.args.missing _ c.args.here.now _ (length c.args.piece.now) c.put_front.ensures size)
    c.in-Ok-Piece.field-0-is (c.in-Ok-Piece.ensures.taken t))
    _ after
    (omega (arith, c.if-left-eq0.false)) c.next_piece.ensures.runs c.stream_rest.new.body c.stream_rest.result (c.stream_rest.ensures.streams t)

pub returns-else-left-eq0-clause-failed : goal.returns-else-left-eq0-clause-failed
returns-else-left-eq0-clause-failed g c t =
    let size : length c.put_front.new.buffer ≡ length c.args.piece.now = search rules in
    let after : length c.next_piece.new.piece ≡ length c.args.piece.now = search rules in
    let whole = stream_of c.args.store.now c.args.body.now c.args.here.now c.args.missing (length c.args.piece.now) in
    broken_then (g.S.Disk.told c.stream_rest.new.station) whole
    c.in-Ok-Piece.left c.next_piece.new.body
    (first_piece (g.S.Disk.told c.args.station.now) (g.S.Disk.told c.next_piece.new.station) c.next_piece.new.body
    (same_stream c.args.store.now c.args.body.now c.args.missing _ c.args.here.now _ (length c.args.piece.now) c.put_front.ensures size)
    c.in-Ok-Piece.field-0-is (c.in-Ok-Piece.ensures.taken t))
    _ after
    (omega (arith, c.if-left-eq0.false)) c.next_piece.ensures.runs c.stream_rest.result (c.stream_rest.ensures.failed t)

pub returns-in-Ok-Part-clause-streams : goal.returns-in-Ok-Part-clause-streams
returns-in-Ok-Part-clause-streams g c t =
    let size : length c.put_front.new.buffer ≡ length c.args.piece.now = search rules in
    let left = is_left c.args.body.now (length c.args.here.now) c.args.missing c.next_piece.new.body c.in-Ok-Part.field-0-is c.in-Ok-Part.ensures.left in
    cut_streamed (stream_of c.args.store.now c.args.body.now c.args.here.now c.args.missing (length c.args.piece.now))
    c.next_piece.new.body c.in-Ok-Part.left left.0
    (first_piece (g.S.Disk.told c.args.station.now) (g.S.Disk.told c.next_piece.new.station) c.next_piece.new.body
    (same_stream c.args.store.now c.args.body.now c.args.missing _ c.args.here.now _ (length c.args.piece.now) c.put_front.ensures size)
    c.in-Ok-Part.field-0-is (c.in-Ok-Part.ensures.taken t))

pub returns-else-left-eq0-clause-left : goal.returns-else-left-eq0-clause-left
returns-else-left-eq0-clause-left g c =
    filled_then c.args.body.now c.next_piece.new.body c.stream_rest.new.body (length c.args.here.now) c.args.missing c.in-Ok-Piece.left
    (is_left c.args.body.now (length c.args.here.now) c.args.missing c.next_piece.new.body c.in-Ok-Piece.field-0-is c.in-Ok-Piece.ensures.left)
    c.stream_rest.result c.stream_rest.ensures.left
