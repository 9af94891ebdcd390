use Rattle.std.specs.Io.KnownBytes.{Keeps}
use Rattle.glacier_host.proofs.streams.receive_now.Given as goal

abbrev pub invariant-loop : goal.invariant-loop
invariant-loop g l = record { kept : Keeps (g.R.Read.remaining l.fn.reader) (g.R.Read.remaining l.reader) }
