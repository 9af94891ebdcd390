use Rattle.std.proofs.Common.{◌≡◌, IsTrue, true, drop}
use Rattle.glacier_disk.specs.Moments.{Looks}
use Rattle.glacier_journal.specs.Breaks.{areas, first_full}
use Rattle.glacier_journal.proofs.create.check_all_empty.Given as goal

abbrev pub invariant-loop-area : goal.invariant-loop-area
invariant-loop-area g l = record {
  first : IsTrue g.D.Disk.tells → first_full (g.D.Disk.told l.fn.disk).reads (drop l.area-index l.area-items) ≡ first_full (g.D.Disk.told l.fn.disk).reads areas;
  looks : IsTrue g.D.Disk.tells → Looks (g.D.Disk.told l.fn.disk) (g.D.Disk.told l.disk);
  is_open : (g.D.Disk.told l.disk).opened ≡ true;
  faults : (g.D.Disk.told l.disk).disk_faults ≡ (g.D.Disk.told l.fn.disk).disk_faults;
  alone : g.D.Disk.by_disk l.fn.disk l.disk;
}
