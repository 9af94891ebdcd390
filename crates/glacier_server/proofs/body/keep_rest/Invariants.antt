use Rattle.std.proofs.Common.{◌-◌, ◌<◌, ◌≤◌, ◌≡◌, IsTrue, length, take}
use Rattle.glacier_server.specs.Transfer.{TakesBehind, Keeps}
use Rattle.glacier_server.specs.Does.{nothing}
use Rattle.glacier_server.proofs.body.keep_rest.Given as goal

abbrev pub invariant-loop-filled : goal.invariant-loop-filled
invariant-loop-filled g l = record {
  begun : l.fn.at ≤ l.filled;
  within : l.filled ≤ l.fn.end;
  size : length l.buffer ≡ length l.fn.buffer;
  takes : IsTrue g.S.Disk.tells → TakesBehind (g.S.Disk.told l.fn.station) (g.S.Disk.told l.station)
      (take l.fn.at l.fn.buffer) (take l.filled l.buffer) (λ front. length front < l.fn.end) nothing;
  reads : (g.S.Disk.told l.station).reads ≡ (g.S.Disk.told l.fn.station).reads;
  keeps : Keeps (g.S.Disk.told l.fn.station) (g.S.Disk.told l.station) nothing;
}

abbrev pub decreases-loop-filled : goal.decreases-loop-filled
decreases-loop-filled g l = l.fn.end - l.filled
