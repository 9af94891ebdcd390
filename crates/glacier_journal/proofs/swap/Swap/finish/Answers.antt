use Rattle.glacier_disk.specs.declared.area.Area.TheVariants.{Lead}
use Rattle.glacier_disk.proofs.TouchesLemmas.{touches_start, touches_rests, touches_joined}
use Rattle.glacier_journal.proofs.SwapLemmas.{turning}
use Rattle.glacier_journal.proofs.swap.Swap.finish.Goals as goal

pub returns-in_err-write_synced-clause-any_moment : goal.returns-in_err-write_synced-clause-any_moment
returns-in_err-write_synced-clause-any_moment g c t picked olds news end other lists written =
    turning (g.D.Disk.told c.args.disk.now) (g.D.Disk.told c.sync.new.self) (g.D.Disk.told c.write_synced.new.disk) picked c.args.self.area olds news end c.args.self.length other lists written
    (g.met.D.Disk.lawful t c.args.disk.now).reads_left (g.met.D.Disk.lawful t c.args.disk.now) c.sync.ensures.call.rests (c.in_ok-sync.ensures.durable t) (c.write_synced.ensures.writes t).any_moment

pub returns-clause-any_moment : goal.returns-clause-any_moment
returns-clause-any_moment g c t picked olds news end other lists written =
    turning (g.D.Disk.told c.args.disk.now) (g.D.Disk.told c.sync.new.self) (g.D.Disk.told c.write_synced.new.disk) picked c.args.self.area olds news end c.args.self.length other lists written
    (g.met.D.Disk.lawful t c.args.disk.now).reads_left (g.met.D.Disk.lawful t c.args.disk.now) c.sync.ensures.call.rests (c.in_ok-sync.ensures.durable t) (c.write_synced.ensures.writes t).any_moment

pub returns-in_err-sync-clause-touches : goal.returns-in_err-sync-clause-touches
returns-in_err-sync-clause-touches g c t =
    touches_rests (touches_start Lead (g.D.Disk.told c.args.disk.now) (g.met.D.Disk.lawful t c.args.disk.now)) c.sync.ensures.call.rests

pub returns-in_err-write_synced-clause-touches : goal.returns-in_err-write_synced-clause-touches
returns-in_err-write_synced-clause-touches g c t =
    touches_joined (touches_rests (touches_start Lead (g.D.Disk.told c.args.disk.now) (g.met.D.Disk.lawful t c.args.disk.now)) c.sync.ensures.call.rests) (c.write_synced.ensures.writes t).touches

pub returns-clause-touches : goal.returns-clause-touches
returns-clause-touches g c t =
    touches_joined (touches_rests (touches_start Lead (g.D.Disk.told c.args.disk.now) (g.met.D.Disk.lawful t c.args.disk.now)) c.sync.ensures.call.rests) (c.write_synced.ensures.writes t).touches
