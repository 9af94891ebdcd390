use Rattle.std.proofs.Common.{arith}
use Rattle.glacier_journal.proofs.SwapLemmas.{begun}
use Rattle.glacier_journal.proofs.SyncLemmas.{up_to_start, up_to_cut, up_to_write}
use Rattle.glacier_journal.proofs.swap.begin_at.Goals as goal

pub returns-in_err-cut-clause-writes : goal.returns-in_err-cut-clause-writes
returns-in_err-cut-clause-writes g c t = up_to_cut (up_to_start c.args.area 17 (g.met.D.Disk.lawful t c.args.disk.now)) (c.cut.ensures.cuts t)

pub returns-in_err-write_at-clause-writes : goal.returns-in_err-write_at-clause-writes
returns-in_err-write_at-clause-writes g c t =
    up_to_write (up_to_cut (up_to_start c.args.area 17 (g.met.D.Disk.lawful t c.args.disk.now)) (c.cut.ensures.cuts t)) (omega arith) (c.write_at.ensures.writes t)

pub returns-clause-writes : goal.returns-clause-writes
returns-clause-writes g c t =
    up_to_write (up_to_cut (up_to_start c.args.area 17 (g.met.D.Disk.lawful t c.args.disk.now)) (c.cut.ensures.cuts t)) (omega arith) (c.write_at.ensures.writes t)

pub returns-clause-begun : goal.returns-clause-begun
returns-clause-begun g c t =
    begun (g.D.Disk.told c.args.disk.now).reads (g.D.Disk.told c.cut.new.self).reads (g.D.Disk.told c.write_at.new.self).reads c.args.area
    (c.in_ok-cut.ensures.cuts t).cut (c.in_ok-write_at.ensures.writes t).written
