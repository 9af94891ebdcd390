use Rattle.std.proofs.Common.{◌≡◌, ◌+◌, ◌≤◌, ℕ, List, IsTrue, true, length, drop}
use Rattle.glacier_disk.specs.declared.area.Area.TheVariants.{Blobs}
use Rattle.glacier_disk.specs.Calls.{Rests}
use Rattle.glacier_bodies.specs.BlobAreas.{runs_of}
use Rattle.glacier_bodies.specs.Blobs.{Holds}
use Rattle.glacier_bodies.proofs.ReadLemmas.{IsAt}
use Rattle.glacier_bodies.proofs.blob_area.BlobArea.read.Given as goal

abbrev pub invariant-loop-number : goal.invariant-loop-number
invariant-loop-number g l = record {
  within : l.done ≤ length l.into;
  opened : (g.D.Disk.told l.disk).opened ≡ true;
  alone : g.D.Disk.by_disk l.fn.disk l.disk;
  faults : (g.D.Disk.told l.disk).disk_faults ≡ (g.D.Disk.told l.fn.disk).disk_faults;
  rests : Rests (g.D.Disk.told l.fn.disk) (g.D.Disk.told l.disk);
  bytes : IsTrue g.D.Disk.tells → (bytes : List ℕ)
      → Holds (runs_of l.self.blobs l.account l.blobs) bytes ((g.D.Disk.told l.fn.disk).reads Blobs)
      → l.at + length l.into ≤ length bytes
      → IsAt l.at l.skip l.done l.into (runs_of l.self.blobs l.account (drop l.number-index l.blobs)) bytes ((g.D.Disk.told l.fn.disk).reads Blobs);
}
