use Rattle.glacier_journal.proofs.SyncLemmas.{after_write, after_sync}
use Rattle.glacier_journal.proofs.synced.write_synced.Goals as goal

pub returns-in_err-write_at-clause-writes : goal.returns-in_err-write_at-clause-writes
returns-in_err-write_at-clause-writes g c t =
    after_write (g.met.D.Disk.lawful t c.args.disk.now) (c.write_at.ensures.writes t)

pub returns-in_err-settle-clause-writes : goal.returns-in_err-settle-clause-writes
returns-in_err-settle-clause-writes g c t =
    let writes = c.write_at.ensures.writes t in
    after_sync (after_write (g.met.D.Disk.lawful t c.args.disk.now) writes) writes.crash c.settle.ensures.call.rests

pub returns-clause-writes : goal.returns-clause-writes
returns-clause-writes g c t =
    let writes = c.write_at.ensures.writes t in
    after_sync (after_write (g.met.D.Disk.lawful t c.args.disk.now) writes) writes.crash c.settle.ensures.call.rests
