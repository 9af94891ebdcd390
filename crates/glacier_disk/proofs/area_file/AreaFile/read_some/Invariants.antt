use Rattle.std.proofs.Common.{IsTrue}
use Rattle.glacier_disk.specs.RawFiles.{SameFile}
use Rattle.glacier_disk.proofs.area_file.AreaFile.read_some.Given as goal

abbrev pub invariant-loop : goal.invariant-loop
invariant-loop g l = IsTrue g.F.RawFile.tells → SameFile g.F.RawFile.content g.F.RawFile.stable l.initial.self.file l.self.file
