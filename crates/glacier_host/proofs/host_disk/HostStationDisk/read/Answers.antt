use Rattle.std.proofs.Common.{◌∙◌, ap, sym}
use Rattle.glacier_disk.specs.Folders.{image_on}
use Rattle.glacier_host.proofs.host_disk.HostStationDisk.read.Goals as goal

-- the folder that was open is the one that was asked
pub returns-clause-same : goal.returns-clause-same
returns-clause-same g c = λ tells. c.read.ensures.same tells ∙ ap (image_on g.R.File.RawFile.content) (sym c.in-Some.is)
