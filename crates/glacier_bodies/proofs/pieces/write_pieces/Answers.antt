use Rattle.std.proofs.Common.{◌*◌, refl, ◌∙◌, arith}
use Rattle.glacier_extents.specs.Places.{block_size}
use Rattle.glacier_extents.specs.FreeRuns.{blocks}
use Rattle.glacier_bodies.proofs.CallLemmas.{none_failed, last_failed}
use Rattle.glacier_bodies.proofs.PieceLemmas.{piece_own, piece_keeps, piece_more, all_pieces, not_ok}
use Rattle.glacier_bodies.proofs.pieces.write_pieces.Goals as goal

pub returns-in_err-write_block-clause-stored : goal.returns-in_err-write_block-clause-stored
returns-in_err-write_block-clause-stored g c = λ t before long held. (
  piece_keeps c.args.layout.now c.args.bytes.now blocks c.args.from c.loop-i.i (c.loop-i.i * block_size) c.min-end.result c.block-block.result
      (g.D.Disk.told c.args.disk.now) (g.D.Disk.told c.loop-i.disk) (g.D.Disk.told c.write_block.new.disk)
      c.requires.distinct refl c.min-end.ensures (omega arith) c.requires.room c.block-block.ensures.block (c.write_block.ensures.own t)
      before long (c.loop-i.invariant.stored t before long held),
  not_ok _ c.from_residual.result c.from_residual.ensures.0,
)

pub returns-in_err-write_block-clause-own : goal.returns-in_err-write_block-clause-own
returns-in_err-write_block-clause-own g c = λ t.
    piece_own c.args.layout.now c.args.bytes.now blocks c.args.from c.loop-i.i (c.loop-i.i * block_size) c.min-end.result c.block-block.result
    (g.D.Disk.told c.args.disk.now) (g.D.Disk.told c.loop-i.disk) (g.D.Disk.told c.write_block.new.disk)
    c.requires.distinct refl c.min-end.ensures (omega arith) c.requires.room c.block-block.ensures.block (c.write_block.ensures.own t)
    (c.loop-i.invariant.own t)

pub loop-i-preserved : goal.loop-i-preserved
loop-i-preserved g c = record {
  opened = c.write_block.ensures.call.opened;
  alone = g.met.D.Disk.by_disk_joins c.args.disk.now c.loop-i.disk c.write_block.new.disk c.loop-i.invariant.alone c.write_block.ensures.alone;
  faults = c.in_ok-write_block.ensures.call.tried.cause.ok ∙ c.loop-i.invariant.faults;
  own = λ t.
      piece_own c.args.layout.now c.args.bytes.now blocks c.args.from c.loop-i.i (c.loop-i.i * block_size) c.min-end.result c.block-block.result
      (g.D.Disk.told c.args.disk.now) (g.D.Disk.told c.loop-i.disk) (g.D.Disk.told c.write_block.new.disk)
      c.requires.distinct refl c.min-end.ensures (omega arith) c.requires.room c.block-block.ensures.block (c.write_block.ensures.own t)
      (c.loop-i.invariant.own t);
  stored = λ t before long held.
      piece_more c.args.layout.now c.args.bytes.now blocks c.args.from c.loop-i.i (c.loop-i.i * block_size) c.min-end.result c.block-block.result
      (g.D.Disk.told c.args.disk.now) (g.D.Disk.told c.loop-i.disk) (g.D.Disk.told c.write_block.new.disk)
      c.requires.distinct refl c.min-end.ensures (omega arith) c.requires.room c.block-block.ensures.block (c.write_block.ensures.own t)
      before long (c.loop-i.invariant.stored t before long held) (c.in_ok-write_block.ensures.wrote t);
}

pub returns-clause-stored : goal.returns-clause-stored
returns-clause-stored g c = λ t before long held. all_pieces c.args.layout.now before c.args.bytes.now _ c.loop-i.i (omega arith) (c.loop-i.invariant.stored t before long held)

pub returns-in_err-write_block-clause-call : goal.returns-in_err-write_block-clause-call
returns-in_err-write_block-clause-call g c =
    let call = c.in_err-write_block.ensures.call in
    last_failed (g.D.Disk.told c.args.disk.now) (g.D.Disk.told c.loop-i.disk) (g.D.Disk.told c.write_block.new.disk) c.from_residual.result
    c.from_residual.ensures.0 c.loop-i.invariant.faults call.opened call.tried.cause

pub returns-clause-call : goal.returns-clause-call
returns-clause-call g c = none_failed (g.D.Disk.told c.args.disk.now) (g.D.Disk.told c.loop-i.disk) c.loop-i.invariant.opened c.loop-i.invariant.faults
