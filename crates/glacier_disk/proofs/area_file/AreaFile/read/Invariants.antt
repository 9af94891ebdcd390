use Rattle.std.proofs.Common.{◌≡◌, ◌≤◌, IsTrue, drop, length, take}
use Rattle.glacier_disk.proofs.area_file.AreaFile.read.Given as goal

abbrev pub invariant-loop : goal.invariant-loop
invariant-loop g l = record {
  within : l.done ≤ length l.into;
  same : IsTrue g.F.RawFile.tells → g.F.RawFile.content l.self.file ≡ g.F.RawFile.content l.initial.self.file;
  inside : IsTrue g.F.RawFile.tells → l.done ≤ length (drop l.at (g.F.RawFile.content l.initial.self.file));
  bytes : IsTrue g.F.RawFile.tells → take l.done l.into ≡ take l.done (drop l.at (g.F.RawFile.content l.initial.self.file));
}
