use Rattle.std.proofs.Common.{rules, ◌≡◌, ◌∙◌, [], length, refl, arith}
use Rattle.glacier_server.specs.Streams.{stream_of}
use Rattle.glacier_server.proofs.KeepLemmas.{keeps_self, keeps_then}
use Rattle.glacier_server.proofs.PiecesLemmas.{written_none, is_left, piece_then, fault_then, all_streamed, cut_streamed, some_none, some_then}
use Rattle.glacier_server.proofs.upload_stream.stream_rest.Goals as goal

pub loop-left-init : goal.loop-left-init
loop-left-init g c = record {
  runs = refl;
  size = refl;
  within = omega arith;
  sum = refl;
  whole = λ some. c.requires.whole;
  took = some_none c.args.body.now;
  written = λ t. written_none _ _ _ _ _;
  keeps = keeps_self _ c.requires.connected;
}

pub loop-left-preserved : goal.loop-left-preserved
loop-left-preserved g c =
    let inv = c.loop-left.invariant in
    let size : length c.next_piece.new.piece ≡ length c.loop-left.piece = search rules in
    let left = is_left c.loop-left.body 0 c.loop-left.left c.next_piece.new.body c.in-Ok-Piece.field-0-is c.in-Ok-Piece.ensures.left in record {
      runs = c.next_piece.ensures.runs ∙ inv.runs;
      size = size ∙ inv.size;
      within = omega (arith, left.0, inv.within);
      sum = omega (arith, left.2, inv.sum);
      whole = left.3;
      took = some_then c.args.body.now c.loop-left.body c.next_piece.new.body inv.took left.4;
      written = λ t.
          piece_then (g.S.Disk.told c.next_piece.new.station)
          (stream_of c.args.store.now c.args.body.now [] c.args.missing (length c.args.piece.now))
          c.loop-left.left c.loop-left.body (inv.written t) _ inv.size c.loop-left-test.true inv.runs c.next_piece.new.body
          c.in-Ok-Piece.field-0-is (c.in-Ok-Piece.ensures.taken t);
      keeps = keeps_then inv.keeps c.in-Ok-Piece.ensures.keeps;
    }

pub returns-in-Ok-Part-clause-streams : goal.returns-in-Ok-Part-clause-streams
returns-in-Ok-Part-clause-streams g c t =
    let inv = c.loop-left.invariant in
    let whole = stream_of c.args.store.now c.args.body.now [] c.args.missing (length c.args.piece.now) in
    let left = is_left c.loop-left.body 0 c.loop-left.left c.next_piece.new.body c.in-Ok-Part.field-0-is c.in-Ok-Part.ensures.left in
    cut_streamed whole c.next_piece.new.body c.in-Ok-Part.cut left.0
    (piece_then (g.S.Disk.told c.next_piece.new.station) whole c.loop-left.left c.loop-left.body (inv.written t) _ inv.size
    c.loop-left-test.true inv.runs c.next_piece.new.body c.in-Ok-Part.field-0-is (c.in-Ok-Part.ensures.taken t))

pub returns-in-Err-clause-failed : goal.returns-in-Err-clause-failed
returns-in-Err-clause-failed g c t =
    let inv = c.loop-left.invariant in
    fault_then (g.S.Disk.told c.next_piece.new.station)
    (stream_of c.args.store.now c.args.body.now [] c.args.missing (length c.args.piece.now))
    c.loop-left.left c.loop-left.body (inv.written t) _ inv.size c.loop-left-test.true inv.runs c.in-Err.fault (c.in-Err.ensures.failed t)

pub returns-clause-streams : goal.returns-clause-streams
returns-clause-streams g c t =
    all_streamed (stream_of c.args.store.now c.args.body.now [] c.args.missing (length c.args.piece.now)) c.loop-left.body
    c.loop-left.left c.loop-left.left refl (omega (arith, c.loop-left-test.false)) (c.loop-left.invariant.written t)
