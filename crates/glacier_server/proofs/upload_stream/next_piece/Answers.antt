use Rattle.std.proofs.Common.{rules, ◌≡◌, ◌<◌, ◌-◌, ◌+◌, ℕ, length, refl, arith}
use Rattle.glacier_server.proofs.PieceLemmas.{stopped, not_written, wrote}
use Rattle.glacier_server.proofs.upload_stream.next_piece.Goals as goal

pub returns-in-Err-clause-failed : goal.returns-in-Err-clause-failed
returns-in-Err-clause-failed g c t =
    let size : length c.keep_rest.new.buffer ≡ length c.args.piece.now = search rules in
    let is = c.end_of_piece-end.ensures in
    let failed = c.in-Err.ensures.failed t in
    let less : failed.0 < length c.args.piece.now = omega (arith, is, failed.1) in
    let some : 0 < c.args.held + c.args.missing - failed.0 = omega (arith, is, failed.1) in (
      c.args.held + c.args.missing - failed.0,
      stopped c.args.store.now c.args.body.now c.args.piece.now c.keep_rest.new.buffer c.args.held c.args.missing
          c.end_of_piece-end.result failed.0 (c.args.held + c.args.missing - failed.0) is c.requires.piece.2 size
          (omega (arith, failed.1)) (omega (arith, some)) failed.3 c.in-Err.ensures.reads less some,
    )

pub returns-then-filled-end-clause-taken : goal.returns-then-filled-end-clause-taken
returns-then-filled-end-clause-taken g c t =
    let size : length c.keep_rest.new.buffer ≡ length c.args.piece.now = search rules in
    let is = c.end_of_piece-end.ensures in
    let begun = c.in-Ok.ensures.within.0 in
    let below = c.if-filled-end.true in
    let left : ℕ = c.args.missing - (c.in-Ok.filled - c.args.held) in
    let less : c.in-Ok.filled < length c.args.piece.now = omega (arith, is, below) in
    let some : 0 < left = omega (arith, is, begun, below) in (
      stopped c.args.store.now c.args.body.now c.args.piece.now c.keep_rest.new.buffer c.args.held c.args.missing
          c.end_of_piece-end.result c.in-Ok.filled left is c.requires.piece.2 size c.in-Ok.ensures.within.1
          (omega (arith, is, begun, below)) (c.in-Ok.ensures.takes t) c.in-Ok.ensures.reads less some,
      c.in-Ok.ensures.end t below,
    )

pub returns-in-Ok-body_piece-clause-taken : goal.returns-in-Ok-body_piece-clause-taken
returns-in-Ok-body_piece-clause-taken g c t =
    let size : length c.keep_rest.new.buffer ≡ length c.args.piece.now = search rules in
    let is = c.end_of_piece-end.ensures in
    let full : c.in-Ok.filled ≡ c.end_of_piece-end.result = omega (arith, c.if-filled-end.false, c.in-Ok.ensures.within.1) in
    wrote c.args.store.now c.args.body.now c.args.piece.now c.keep_rest.new.buffer c.args.held c.args.missing
    c.end_of_piece-end.result c.in-Ok.filled (c.args.missing - (c.in-Ok.filled - c.args.held)) is c.requires.piece.2 size
    (omega (arith, is, c.in-Ok.ensures.within.0, full)) full (c.in-Ok.ensures.takes t) c.in-Ok.ensures.reads
    (g.met.S.Disk.lawful t c.body_piece.new.disk)
    (g.met.S.Disk.by_disk_keeps c.keep_rest.new.station c.body_piece.new.disk c.body_piece.ensures.alone)
    (c.body_piece.ensures.keeps t) c.body_piece.new.body _ refl c.body_piece.ensures.runs c.in-Ok-body_piece.ensures.taken
    (λ before took lie. (c.in-Ok-body_piece.ensures.stored t before took lie).1)

pub returns-in-Err-body_piece-clause-failed : goal.returns-in-Err-body_piece-clause-failed
returns-in-Err-body_piece-clause-failed g c t =
    let size : length c.keep_rest.new.buffer ≡ length c.args.piece.now = search rules in
    let is = c.end_of_piece-end.ensures in
    let full : c.in-Ok.filled ≡ c.end_of_piece-end.result = omega (arith, c.if-filled-end.false, c.in-Ok.ensures.within.1) in (
      c.args.missing - (c.in-Ok.filled - c.args.held),
      not_written c.args.store.now c.args.body.now c.args.piece.now c.keep_rest.new.buffer c.args.held c.args.missing
          c.end_of_piece-end.result c.in-Ok.filled (c.args.missing - (c.in-Ok.filled - c.args.held)) is c.requires.piece.2 size
          (omega (arith, is, c.in-Ok.ensures.within.0, full)) full (c.in-Ok.ensures.takes t) c.in-Ok.ensures.reads
          (g.met.S.Disk.lawful t c.body_piece.new.disk)
          (g.met.S.Disk.by_disk_keeps c.keep_rest.new.station c.body_piece.new.disk c.body_piece.ensures.alone)
          (c.body_piece.ensures.keeps t) (λ before took lie. (c.in-Err-body_piece.ensures.stored t before took lie).0),
    )
