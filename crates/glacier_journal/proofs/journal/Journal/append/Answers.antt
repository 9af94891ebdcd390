use Rattle.std.proofs.Common.{arith}
use Rattle.glacier_journal.proofs.AppendLemmas.{appends_nothing, appends_staged, appends_opened, acknowledged}
use Rattle.glacier_journal.proofs.journal.Journal.append.Goals as goal

pub returns-then-length-gt-MOST_LENGTH-clause-appends : goal.returns-then-length-gt-MOST_LENGTH-clause-appends
returns-then-length-gt-MOST_LENGTH-clause-appends g c t =
    appends_nothing c.args.self.area c.args.self.length c.args.frame.now (g.met.D.Disk.lawful t c.args.disk.now)

pub returns-in_err-write_synced-clause-appends : goal.returns-in_err-write_synced-clause-appends
returns-in_err-write_synced-clause-appends g c t =
    appends_staged _ _ c.args.self.area c.args.self.length c.args.frame.now c.bytes-bytes.result.now (g.met.D.Disk.lawful t c.args.disk.now)
    c.bytes-bytes.ensures.short c.bytes-bytes.ensures.framed (c.write_synced.ensures.writes t)

pub returns-in_err-write_synced-2-clause-appends : goal.returns-in_err-write_synced-2-clause-appends
returns-in_err-write_synced-2-clause-appends g c t =
    appends_opened _ _ c.args.self.area c.args.self.length c.args.frame.now c.bytes-bytes.result.now (g.met.D.Disk.lawful t c.args.disk.now)
    c.bytes-bytes.ensures.short c.bytes-bytes.ensures.framed (c.write_synced.ensures.writes t)
    _ (c.in_ok-write_synced.ensures.written t) (omega (arith, c.args.self.enough)) (c.in_ok-write_synced.ensures.durable t) (c.write_synced-2.ensures.writes t)

pub returns-clause-appends : goal.returns-clause-appends
returns-clause-appends g c t =
    appends_opened _ _ c.args.self.area c.args.self.length c.args.frame.now c.bytes-bytes.result.now (g.met.D.Disk.lawful t c.args.disk.now)
    c.bytes-bytes.ensures.short c.bytes-bytes.ensures.framed (c.write_synced.ensures.writes t)
    _ (c.in_ok-write_synced.ensures.written t) (omega (arith, c.args.self.enough)) (c.in_ok-write_synced.ensures.durable t) (c.write_synced-2.ensures.writes t)

pub returns-clause-acknowledged : goal.returns-clause-acknowledged
returns-clause-acknowledged g c t =
    acknowledged _ _ c.args.self.area c.args.self.length c.args.frame.now c.bytes-bytes.result.now (g.met.D.Disk.lawful t c.args.disk.now)
    c.bytes-bytes.ensures.short c.bytes-bytes.ensures.framed (c.write_synced.ensures.writes t)
    _ (c.in_ok-write_synced.ensures.written t) (c.in_ok-write_synced-2.ensures.written t) (c.in_ok-write_synced-2.ensures.durable t)
