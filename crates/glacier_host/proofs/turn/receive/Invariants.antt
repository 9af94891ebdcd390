use Rattle.std.proofs.Common.{◌≡◌, length}
use Rattle.std.specs.Io.KnownBytes.{Keeps}
use Rattle.glacier_host.specs.Courses.{GoesOn}
use Rattle.glacier_host.specs.Turns.{coming}
use Rattle.glacier_host.proofs.turn.receive.Given as goal

abbrev pub invariant-loop : goal.invariant-loop
invariant-loop g l = record {
  size : length l.into ≡ length l.fn.into;
  kept : Keeps (coming g.R.Stream.Read.remaining l.fn.connection) (coming g.R.Stream.Read.remaining l.connection);
  course : GoesOn l.fn.connection.course l.connection.course 0;
}
