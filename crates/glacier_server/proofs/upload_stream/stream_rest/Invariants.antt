use Rattle.std.proofs.Common.{◌≡◌, ◌+◌, ◌%◌, ◌<◌, ◌≤◌, [], IsTrue, length}
use Rattle.glacier_bodies.specs.Bodies.{body_runs, body_taken}
use Rattle.glacier_extents.specs.Places.{block_size}
use Rattle.glacier_server.specs.Does.{nothing}
use Rattle.glacier_server.specs.Streams.{TakesSome, Written, stream_of}
use Rattle.glacier_server.specs.Transfer.{Keeps}
use Rattle.glacier_server.proofs.upload_stream.stream_rest.Given as goal

abbrev pub invariant-loop-left : goal.invariant-loop-left
invariant-loop-left g l = record {
  runs : body_runs l.body ≡ body_runs l.fn.body;
  size : length l.piece ≡ length l.fn.piece;
  within : l.left ≤ l.fn.missing;
  sum : body_taken l.body + l.left ≡ body_taken l.fn.body + l.fn.missing;
  whole : 0 < l.left → body_taken l.body % block_size ≡ 0;
  took : TakesSome l.fn.body l.body;
  written : IsTrue g.S.Disk.tells → Written (stream_of l.store l.fn.body [] l.fn.missing (length l.fn.piece))
      (g.S.Disk.told l.fn.station) (g.S.Disk.told l.station) l.body l.left;
  keeps : Keeps (g.S.Disk.told l.fn.station) (g.S.Disk.told l.station) nothing;
}

abbrev pub decreases-loop-left : goal.decreases-loop-left
decreases-loop-left g l = l.left
