use Rattle.std.proofs.Common.{◌*◌, ◌+◌, min, length}
use Rattle.glacier_disk.specs.declared.area.Area.TheVariants.{Blobs}
use Rattle.glacier_disk.specs.Image.{TornWrite}
use Rattle.glacier_disk.proofs.Results.{by_result}
use Rattle.glacier_extents.specs.Places.{block_size}
use Rattle.glacier_extents.proofs.PlaceLemmas.{blocks_write, done_torn}
use Rattle.glacier_extents.proofs.access.write_block.Goals as goal

pub returns-clause-own : goal.returns-clause-own
returns-clause-own g c = λ t.
    let old = g.D.Disk.told c.args.disk.now in
    let new = g.D.Disk.told c.write_at.new.self in
    let n = length c.args.bytes.now in
    let place = c.args.block * block_size in
    let read : TornWrite Blobs (min place (length (old.reads Blobs))) (place + n) old.reads new.reads =
    by_result c.write_at.result (c.write_at.ensures.writes t).written (c.write_at.ensures.writes t).part
    (λ done. done_torn Blobs place c.args.bytes.now old.reads new.reads done) (λ torn. torn) in
    blocks_write c.args.block n old new c.requires.size c.requires.some (g.met.D.Disk.lawful t c.args.disk.now).only_now read (c.write_at.ensures.writes t).crash (c.write_at.ensures.writes t).time
