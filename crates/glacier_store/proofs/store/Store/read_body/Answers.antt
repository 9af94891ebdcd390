use Rattle.std.proofs.Common.{arith}
use Rattle.glacier_bodies.specs.BlobAreas.{bytes_of}
use Rattle.glacier_disk.specs.declared.area.Area.TheVariants.{Blobs}
use Rattle.glacier_replay.proofs.ReadStates.{told_held}
use Rattle.glacier_store.proofs.store.Store.read_body.Goals as goal

pub returns-clause-bytes : goal.returns-clause-bytes
returns-clause-bytes g c t state size leaves held told within =
    let old = g.D.Disk.told c.args.disk.now in
    let account = c.args.account.now in
    let blobs = c.args.blobs.now in
    let is = held.state_is old.reads (g.met.D.Disk.lawful t c.args.disk.now).reads_left in
    c.read.ensures.bytes t (bytes_of state.bodies account blobs)
    (told_held held.payloads c.args.self.now.area.blobs (old.reads Blobs) state account size leaves blobs is told)
    (omega (arith, within, told.size_is))
