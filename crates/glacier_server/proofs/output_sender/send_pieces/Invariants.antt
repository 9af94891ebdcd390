use Rattle.std.proofs.Common.{◌-◌, ◌≤◌, ◌≡◌, IsTrue, length}
use Rattle.glacier_replay.specs.Changes.{State}
use Rattle.glacier_server.specs.Does.{nothing}
use Rattle.glacier_server.specs.Outputs.{IsHeldIn, OnlySends}
use Rattle.glacier_server.specs.Texts.{promised}
use Rattle.glacier_server.proofs.OutputLemmas.{SentFirst}
use Rattle.glacier_server.proofs.output_sender.send_pieces.Given as goal
use Rattle.glacier_store.specs.Outputs.{stretch_bytes}

abbrev pub invariant-loop-sent : goal.invariant-loop-sent
invariant-loop-sent g l = record {
  within : l.sent ≤ promised l.fn.output.stretch;
  size : length l.buffer ≡ length l.fn.buffer;
  sends : IsTrue g.S.Disk.tells → (state : State) → IsHeldIn (g.S.Disk.told l.fn.station) l.fn.store state
      → SentFirst (g.S.Disk.told l.fn.station) (g.S.Disk.told l.station)
      (stretch_bytes state l.fn.output.account l.fn.output.stretch) l.sent;
  only : OnlySends (g.S.Disk.told l.fn.station) (g.S.Disk.told l.station) nothing;
}

abbrev pub decreases-loop-sent : goal.decreases-loop-sent
decreases-loop-sent g l = promised l.fn.output.stretch - l.sent
