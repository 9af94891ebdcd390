use Rattle.std.proofs.Common.{subst, ℕ, arith, refl, inl, inr, ◌∙◌}
use Rattle.glacier_server.specs.Placed.{placed_as}
use Rattle.glacier_server.specs.Serving.{Serves}
use Rattle.glacier_server.proofs.CameLemmas.{one_more_came, last_came, few_came}
use Rattle.glacier_server.proofs.HeadlineLemmas.{serves_headline, breaks_headline}
use Rattle.glacier_server.proofs.KeepLemmas.{on_self, on_then, stopped_then}
use Rattle.glacier_server.proofs.ServingLemmas.{serves_nothing, serves_then, breaks_then}
use Rattle.glacier_server.proofs.server.serve.Goals as goal

pub returns-in-Err-clause-broken : goal.returns-in-Err-clause-broken
returns-in-Err-clause-broken g c t = inr (refl, refl, refl)

pub connections-init : goal.connections-init
connections-init g c = record {
  most = omega arith;
  served = λ t state kept. (state, serves_nothing _ (placed_as c.args.store state));
  came = λ t. omega arith;
  kept = on_self _ c.requires.free c.requires.«open» c.requires.listening;
  faults = (refl, refl);
}

pub connections-preserved : goal.connections-preserved
connections-preserved g c = record {
  most = omega (arith, c.connections-test.true);
  served = λ t state kept.
      let before = c.connections.invariant.served t state kept in
      let next = c.in-Ok-true-default.ensures.served t before.0 (before.1.does.kept kept) in
      (next.0, serves_then before.1 (rw c.in-Ok-true-default.field-0-0-test at next.1));
  came = λ t. one_more_came _ _ (c.connections.invariant.came t)
      (rw c.in-Ok-true-default.field-0-0-test at c.in-Ok-true-default.ensures.came t);
  kept = on_then c.connections.invariant.kept c.serve_next.ensures.kept;
  faults = (
    c.in-Ok-true-default.ensures.fault.0 ∙ c.connections.invariant.faults.0,
    c.in-Ok-true-default.ensures.fault.1 ∙ c.connections.invariant.faults.1,
  );
}

pub returns-in-Ok-false-default-clause-served : goal.returns-in-Ok-false-default-clause-served
returns-in-Ok-false-default-clause-served g c t state kept =
    let before = c.connections.invariant.served t state kept in
    let next = c.in-Ok-false-default.ensures.served t before.0 (before.1.does.kept kept) in (
      next.0,
      subst (λ (n : ℕ). Serves c.args.config.now (g.S.Disk.told c.args.station.now) (g.S.Disk.told c.serve_next.new.station)
          (placed_as c.args.store state) (placed_as c.in-Ok-false-default.after next.0) n) (omega arith)
          (serves_then before.1 (rw c.in-Ok-false-default.field-0-0-test at next.1)),
    )

pub returns-in-Err-serve_next-clause-broken : goal.returns-in-Err-serve_next-clause-broken
returns-in-Err-serve_next-clause-broken g c t = inl (λ state kept.
    let before = c.connections.invariant.served t state kept in
    breaks_then (omega (arith, c.connections-test.true)) before.1
    (c.in-Err-serve_next.ensures.broken t before.0 (before.1.does.kept kept)))

pub returns-clause-served : goal.returns-clause-served
returns-clause-served g c t state kept = c.connections.invariant.served t state kept

pub returns-in-Err-clause-came : goal.returns-in-Err-clause-came
returns-in-Err-clause-came g c t = omega arith

pub returns-in-Ok-false-default-clause-came : goal.returns-in-Ok-false-default-clause-came
returns-in-Ok-false-default-clause-came g c t =
    last_came (c.connections.invariant.came t)
    (rw c.in-Ok-false-default.field-0-0-test at c.in-Ok-false-default.ensures.came t)

pub returns-in-Err-serve_next-clause-came : goal.returns-in-Err-serve_next-clause-came
returns-in-Err-serve_next-clause-came g c t =
    few_came _ _ _ _ _ (c.connections.invariant.came t) (omega (arith, c.connections-test.true))
    (c.in-Err-serve_next.ensures.came t)

pub returns-clause-came : goal.returns-clause-came
returns-clause-came g c t = record {
  left = c.connections.invariant.came t;
  fewer = λ less. absurd (omega (arith, less, c.connections-test.false));
}

pub returns-in-Err-clause-headline : goal.returns-in-Err-clause-headline
returns-in-Err-clause-headline g c t state kept =
    serves_headline (g.met.S.Disk.lawful t c.args.station.now) kept (serves_nothing _ (placed_as c.args.store state))

pub returns-in-Ok-false-default-clause-headline : goal.returns-in-Ok-false-default-clause-headline
returns-in-Ok-false-default-clause-headline g c t state kept =
    let before = c.connections.invariant.served t state kept in
    let next = c.in-Ok-false-default.ensures.served t before.0 (before.1.does.kept kept) in
    serves_headline (g.met.S.Disk.lawful t c.args.station.now) kept
    (serves_then before.1 (rw c.in-Ok-false-default.field-0-0-test at next.1))

pub returns-in-Err-serve_next-clause-headline : goal.returns-in-Err-serve_next-clause-headline
returns-in-Err-serve_next-clause-headline g c t state kept =
    let before = c.connections.invariant.served t state kept in
    breaks_headline (g.met.S.Disk.lawful t c.args.station.now) kept {most = c.args.connections}
    (breaks_then (omega (arith, c.connections-test.true)) before.1
    (c.in-Err-serve_next.ensures.broken t before.0 (before.1.does.kept kept)))

pub returns-clause-headline : goal.returns-clause-headline
returns-clause-headline g c t state kept =
    serves_headline (g.met.S.Disk.lawful t c.args.station.now) kept (c.connections.invariant.served t state kept).1

pub returns-in-Ok-false-default-clause-fault : goal.returns-in-Ok-false-default-clause-fault
returns-in-Ok-false-default-clause-fault g c = (
  c.in-Ok-false-default.ensures.fault.0 ∙ c.connections.invariant.faults.0,
  c.in-Ok-false-default.ensures.fault.1 ∙ c.connections.invariant.faults.1,
)

pub returns-in-Err-serve_next-clause-fault : goal.returns-in-Err-serve_next-clause-fault
returns-in-Err-serve_next-clause-fault g c =
    stopped_then c.in-Err-serve_next.fault _ _ _ c.connections.invariant.faults.0 c.connections.invariant.faults.1
    c.in-Err-serve_next.ensures.fault

pub returns-clause-fault : goal.returns-clause-fault
returns-clause-fault g c = (c.connections.invariant.faults.0, c.connections.invariant.faults.1)
