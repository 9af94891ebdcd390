use Rattle.std.specs.Io.KnownBytes.{Keeps}
use Rattle.glacier_host.specs.Turns.{coming}
use Rattle.glacier_host.proofs.connection.Connection.hear_head.Given as goal

abbrev pub invariant-loop : goal.invariant-loop
invariant-loop g l = record { kept : Keeps (coming g.S.Read.remaining l.fn.self) (coming g.S.Read.remaining l.self) }
