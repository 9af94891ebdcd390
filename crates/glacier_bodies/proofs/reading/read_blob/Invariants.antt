use Rattle.std.proofs.Common.{◌≡◌, ◌+◌, ◌-◌, ◌≤◌, ℕ, List, IsTrue, true, length, take, drop}
use Rattle.glacier_disk.specs.declared.area.Area.TheVariants.{Blobs}
use Rattle.glacier_disk.specs.Calls.{Rests}
use Rattle.glacier_bodies.specs.Blobs.{Holds}
use Rattle.glacier_bodies.proofs.reading.read_blob.Given as goal

abbrev pub invariant-loop-done : goal.invariant-loop-done
invariant-loop-done g l = record {
  within : l.done ≤ length l.into;
  opened : (g.D.Disk.told l.disk).opened ≡ true;
  alone : g.D.Disk.by_disk l.fn.disk l.disk;
  faults : (g.D.Disk.told l.disk).disk_faults ≡ (g.D.Disk.told l.fn.disk).disk_faults;
  rests : Rests (g.D.Disk.told l.fn.disk) (g.D.Disk.told l.disk);
  bytes : IsTrue g.D.Disk.tells → (bytes : List ℕ) → Holds l.layout bytes ((g.D.Disk.told l.fn.disk).reads Blobs)
      → l.at + length l.into ≤ length bytes
      → take l.done l.into ≡ take l.done (drop l.at bytes);
}

abbrev pub decreases-loop-done : goal.decreases-loop-done
decreases-loop-done g l = length l.into - l.done
