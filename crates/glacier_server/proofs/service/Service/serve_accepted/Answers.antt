use Rattle.std.proofs.Common.{◌∙◌, ◌+◌, ap, sym}
use Rattle.glacier_disk.specs.Told.{Listener}
use Rattle.glacier_server.proofs.AcceptedLemmas.{serves_one, breaks_one}
use Rattle.glacier_server.proofs.service.Service.serve_accepted.Goals as goal

pub returns-in-Ok-clause-served : goal.returns-in-Ok-clause-served
returns-in-Ok-clause-served g c t old state kept opens =
    let served = c.in-Ok.ensures.served t state kept in
    let last = (g.met.S.Disk.lawful t c.serve_open.new.station).connected_last c.serve_open.ensures.keeps.connected in
    let same = c.hang_up.ensures.call.listener ∙ c.serve_open.ensures.keeps.listener in (
      served.0,
      serves_one (g.S.Disk.told old) (g.S.Disk.told c.args.station.now) (g.S.Disk.told c.serve_open.new.station)
          (g.S.Disk.told c.hang_up.new.self)
          opens last c.hang_up.ensures.call served.1 (opens.fewer
          ∙ ap (λ (l : Listener). 1 + l.to_come) (sym same)),
    )

pub returns-in-Err-clause-broken : goal.returns-in-Err-clause-broken
returns-in-Err-clause-broken g c t old state kept opens =
    let last = (g.met.S.Disk.lawful t c.serve_open.new.station).connected_last c.serve_open.ensures.keeps.connected in
    breaks_one (g.S.Disk.told old) (g.S.Disk.told c.args.station.now) (g.S.Disk.told c.serve_open.new.station)
    (g.S.Disk.told c.hang_up-in-Err.new.self)
    opens last c.hang_up-in-Err.ensures.call c.in-Err.fault (c.in-Err.ensures.broken t state kept)
