use Rattle.std.proofs.Common.{◌∙◌, ap, sym, arith, Ok, Bool}
use Rattle.glacier_disk.specs.Told.{Listener}
use Rattle.glacier_server.specs.Placed.{placed_as}
use Rattle.glacier_server.proofs.CameLemmas.{came_one, came_none}
use Rattle.glacier_server.proofs.ServingLemmas.{serves_none, breaks_accept, just_accepted}
use Rattle.glacier_server.proofs.service.Service.serve_next.Goals as goal

pub returns-in-Ok-clause-served : goal.returns-in-Ok-clause-served
returns-in-Ok-clause-served g c t state kept =
    let ok = ap (λ (b : Bool). Ok b) c.in-Ok-true.field-0-test in
    let came = c.in-Ok-true.ensures.accepts t in
    let next = came.next ok in
    let opens = just_accepted (placed_as c.args.store state) c.accept.ensures.call next.0 next.1 (omega (arith, came.fewer ok)) in
    c.in-Ok.ensures.served t c.args.station.now state (opens.does.kept kept) opens

pub returns-in-Err-serve_accepted-clause-broken : goal.returns-in-Err-serve_accepted-clause-broken
returns-in-Err-serve_accepted-clause-broken g c t state kept =
    let ok = ap (λ (b : Bool). Ok b) c.in-Ok-true.field-0-test in
    let came = c.in-Ok-true.ensures.accepts t in
    let next = came.next ok in
    let opens = just_accepted (placed_as c.args.store state) c.accept.ensures.call next.0 next.1 (omega (arith, came.fewer ok)) in
    c.in-Err-serve_accepted.ensures.broken t c.args.station.now state (opens.does.kept kept) opens

pub returns-in-Ok-false-clause-served : goal.returns-in-Ok-false-clause-served
returns-in-Ok-false-clause-served g c t state kept =
    let end = (c.in-Ok-false.ensures.accepts t).end (ap (λ (b : Bool). Ok b) c.in-Ok-false.field-0-test) in
    (state, serves_none c.accept.ensures.call end.2 (end.1 ∙ sym end.0))

pub returns-in-Err-clause-broken : goal.returns-in-Err-clause-broken
returns-in-Err-clause-broken g c t state kept = breaks_accept c.accept.ensures.call (c.in-Err.ensures.accepts t).failed.1

pub returns-in-Ok-clause-came : goal.returns-in-Ok-clause-came
returns-in-Ok-clause-came g c t =
    let ok = ap (λ (b : Bool). Ok b) c.in-Ok-true.field-0-test in
    came_one _ ((c.in-Ok-true.ensures.accepts t).fewer ok) (ap (λ (l : Listener). l.to_come) c.serve_accepted.ensures.listener)

pub returns-in-Err-serve_accepted-clause-came : goal.returns-in-Err-serve_accepted-clause-came
returns-in-Err-serve_accepted-clause-came g c t =
    let ok = ap (λ (b : Bool). Ok b) c.in-Ok-true.field-0-test in
    let fewer = (c.in-Ok-true.ensures.accepts t).fewer ok in
    let same = ap (λ (l : Listener). l.to_come) c.serve_accepted.ensures.listener in
    omega (arith, fewer, same)

pub returns-in-Ok-false-clause-came : goal.returns-in-Ok-false-clause-came
returns-in-Ok-false-clause-came g c t =
    let end = (c.in-Ok-false.ensures.accepts t).end (ap (λ (b : Bool). Ok b) c.in-Ok-false.field-0-test) in
    came_none end.0 end.1

pub returns-in-Err-clause-came : goal.returns-in-Err-clause-came
returns-in-Err-clause-came g c t = let same = (c.in-Err.ensures.accepts t).failed.0 in omega (arith, same)
