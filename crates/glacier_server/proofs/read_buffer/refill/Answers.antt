use borrow.Rule.Slice.PartMut.{put_mid}
use Rattle.std.proofs.Common.{rules, ◌≡◌, ◌-◌, ℕ, List, [], length, take, drop, sym, subst, arith}
use Rattle.std.specs.Prelude.{Ok}
use Rattle.glacier_server.specs.Transfer.{Takes}
use Rattle.glacier_server.specs.Does.{nothing}
use Rattle.glacier_server.proofs.ListLemmas.{tail_put}
use Rattle.glacier_server.proofs.StepLemmas.{takes_once, none_coming}
use Rattle.glacier_server.proofs.read_buffer.refill.Goals as goal

pub returns-in-Ok-clause-takes : goal.returns-in-Ok-clause-takes
returns-in-Ok-clause-takes g c t =
    let kept : ℕ = c.args.end - c.args.start in
    let behind : drop kept (put_mid kept (length c.move_front.new.buffer - kept) c.move_front.new.buffer c.receive.new.into) ≡ c.receive.new.into = tail_put kept _ c.move_front.new.buffer c.receive.new.into (omega (arith, c.requires.room)) (search rules) in
    subst (λ (l : List ℕ). Takes (g.S.Disk.told c.args.station.now) (g.S.Disk.told c.receive.new.self)
    (take c.in-Ok.count l) (λ front. front ≡ []) nothing) (sym behind)
    (takes_once (Ok c.in-Ok.count) _ c.receive.new.into c.in-Ok.ensures.call (c.in-Ok.ensures.receives t))

pub returns-in-Ok-clause-end : goal.returns-in-Ok-clause-end
returns-in-Ok-clause-end g c t is = none_coming ((c.in-Ok.ensures.receives t).end (omega arith) is)

pub returns-in-Err-clause-takes : goal.returns-in-Err-clause-takes
returns-in-Err-clause-takes g c t = takes_once _ _ c.receive.new.into c.in-Err.ensures.call
    (c.in-Err.ensures.receives t)
