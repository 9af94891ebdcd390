use Rattle.std.proofs.Common.{take}
use Rattle.glacier_journal.specs.Listed.{bytes_of}
use Rattle.glacier_replay.specs.Made.{IsRest, Leads, nothing}
use Rattle.glacier_replay.specs.Restoring.{holdings_of}
use Rattle.glacier_replay.proofs.restoring.replay_all.Given as goal

abbrev pub invariant-loop-payload : goal.invariant-loop-payload
invariant-loop-payload l = record {
  made : Leads nothing (bytes_of (take l.payload-index l.payloads)) (holdings_of l.restored);
  rest : IsRest l.restored.area.free l.restored.area.blobs;
}
