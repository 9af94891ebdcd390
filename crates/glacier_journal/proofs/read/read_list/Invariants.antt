use Rattle.std.proofs.Common.{◌≡◌, ◌≤◌, ◌-◌, [], IsTrue, true}
use Rattle.glacier_disk.specs.Moments.{Looks}
use Rattle.glacier_journal.specs.Listed.{bytes_of, placed, behind}
use Rattle.glacier_journal.proofs.ReadLemmas.{Further}
use Rattle.glacier_journal.proofs.read.read_list.Given as goal

abbrev pub invariant-loop-at : goal.invariant-loop-at
invariant-loop-at g l = record {
  low : 16 ≤ l.at;
  high : l.at ≤ l.size;
  reads : IsTrue g.D.Disk.tells → Further ((g.D.Disk.told l.fn.disk).reads l.area) l.at (bytes_of l.payloads);
  places : l.payloads ≡ placed 16 (bytes_of l.payloads);
  gated : l.at ≡ l.size → bytes_of l.payloads ≡ [];
  here : l.at ≡ behind 16 (bytes_of l.payloads);
  looks : IsTrue g.D.Disk.tells → Looks (g.D.Disk.told l.fn.disk) (g.D.Disk.told l.disk);
  is_open : (g.D.Disk.told l.disk).opened ≡ true;
  faults : (g.D.Disk.told l.disk).disk_faults ≡ (g.D.Disk.told l.fn.disk).disk_faults;
  alone : g.D.Disk.by_disk l.fn.disk l.disk;
}

abbrev pub decreases-loop-at : goal.decreases-loop-at
decreases-loop-at g l = l.size - l.at
