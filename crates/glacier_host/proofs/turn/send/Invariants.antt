use Rattle.std.proofs.Common.{◌≡◌, ◌≤◌, take, length}
use Rattle.std.specs.Io.KnownBytes.{Appends}
use Rattle.glacier_host.proofs.turn.send.Given as goal

abbrev pub invariant-loop : goal.invariant-loop
invariant-loop g l = record {
  within : l.done ≤ length l.bytes;
  held : l.connection.held ≡ l.fn.connection.held;
  course : l.connection.course ≡ l.fn.connection.course;
  written : Appends (g.R.Stream.Write.contents l.fn.connection.stream) (g.R.Stream.Write.contents l.connection.stream) (take l.done l.bytes);
}
