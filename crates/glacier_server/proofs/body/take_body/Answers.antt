use Rattle.std.proofs.Common.{rules, ◌≡◌, ◌<◌, ◌≤◌, ◌-◌, ℕ, List, length, take, refl, subst, arith}
use Rattle.std.proofs.lemmas.List.{length-take-le}
use Rattle.glacier_machine.specs.declared.content_hash.TheConstants.{MOST_BODY}
use Rattle.glacier_server.specs.Transfer.{TakesBehind}
use Rattle.glacier_server.specs.Does.{receiving}
use Rattle.glacier_server.proofs.BodyLemmas.{dropped, kept_behind}
use Rattle.glacier_server.proofs.TransferLemmas.{of_behind}
use Rattle.glacier_server.proofs.body.take_body.Goals as goal

pub returns-then-size-gt-MOST_BODY-clause-takes : goal.returns-then-size-gt-MOST_BODY-clause-takes
returns-then-size-gt-MOST_BODY-clause-takes g c t =
    dropped _ _ c.args.here.now c.args.missing c.args.size c.requires.sum _ MOST_BODY refl c.if-size-gt-MOST_BODY.true c.drop_rest.result
    (c.drop_rest.ensures.takes t)

pub returns-in-Ok-clause-takes : goal.returns-in-Ok-clause-takes
returns-in-Ok-clause-takes g c t =
    let size : length c.keep_rest.new.buffer ≡ length c.args.buffer.now = search rules in
    let fits : c.args.size ≤ length c.args.buffer.now = omega (arith, c.if-size-gt-MOST_BODY.false, c.requires.room) in
    kept_behind _ _ c.args.here.now c.args.missing c.args.size c.requires.sum _ c.keep_rest.new.buffer c.in-Ok.filled (c.in-Ok.ensures.takes t) c.put_front.ensures
    (length-take-le c.in-Ok.filled c.keep_rest.new.buffer (omega (arith, size, fits, c.in-Ok.ensures.within.1))) c.in-Ok.ensures.within.1

pub returns-in-Err-clause-failed : goal.returns-in-Err-clause-failed
returns-in-Err-clause-failed g c t =
    let size : length c.keep_rest.new.buffer ≡ length c.args.buffer.now = search rules in
    let fits : c.args.size ≤ length c.args.buffer.now = omega (arith, c.if-size-gt-MOST_BODY.false, c.requires.room) in
    let failed = c.in-Err.ensures.failed t in (
      c.args.size - failed.0,
      omega (arith, failed.1),
      of_behind (length c.args.here.now) failed.0 c.args.missing c.args.size c.requires.sum
          (subst (λ (l : List ℕ). TakesBehind (g.S.Disk.told c.args.station.now) (g.S.Disk.told c.keep_rest.new.station) l
          (take failed.0 c.keep_rest.new.buffer) (λ k. length k < c.args.size) receiving) c.put_front.ensures failed.3) refl
          (length-take-le failed.0 c.keep_rest.new.buffer (omega (arith, size, fits, failed.1))) (omega (arith, failed.1)),
    )
