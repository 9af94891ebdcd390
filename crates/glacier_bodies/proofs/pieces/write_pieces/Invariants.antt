use Rattle.std.proofs.Common.{◌≡◌, ◌*◌, ◌++◌, ℕ, List, IsTrue, true, length, take}
use Rattle.glacier_disk.specs.declared.area.Area.TheVariants.{Blobs}
use Rattle.glacier_extents.specs.Places.{block_size, WritesBlocks}
use Rattle.glacier_extents.specs.Runs.{has_block}
use Rattle.glacier_bodies.specs.Blobs.{Holds}
use Rattle.glacier_bodies.proofs.pieces.write_pieces.Given as goal

abbrev pub invariant-loop-i : goal.invariant-loop-i
invariant-loop-i g l = record {
  opened : (g.D.Disk.told l.disk).opened ≡ true;
  alone : g.D.Disk.by_disk l.fn.disk l.disk;
  faults : (g.D.Disk.told l.disk).disk_faults ≡ (g.D.Disk.told l.fn.disk).disk_faults;
  own : IsTrue g.D.Disk.tells → WritesBlocks (has_block l.layout) (g.D.Disk.told l.fn.disk) (g.D.Disk.told l.disk);
  stored : IsTrue g.D.Disk.tells → (before : List ℕ) → length before ≡ l.from * block_size
      → Holds l.layout before ((g.D.Disk.told l.fn.disk).reads Blobs)
      → Holds l.layout (before ++ take (l.i * block_size) l.bytes) ((g.D.Disk.told l.disk).reads Blobs);
}
