use Rattle.std.proofs.Common.{rules, refl}
use Rattle.glacier_server.proofs.ConnectionLemmas.{kept_now, at_start, one_more_last, served_last, part_last}
use Rattle.glacier_server.proofs.KeepLemmas.{keeps_self, keeps_then}
use Rattle.glacier_server.proofs.service.Service.serve_open.Goals as goal

pub messages-init : goal.messages-init
messages-init g c = record {
  below = search rules;
  so_far = λ t state kept. (state, at_start _ c.clear.ensures);
  keeps = keeps_self _ c.requires.connected;
}

pub messages-preserved : goal.messages-preserved
messages-preserved g c = record {
  below = search rules;
  so_far = λ t state kept.
      let before = c.messages.invariant.so_far t state kept in
      let next = c.in-Ok-None-default.ensures.exchange t before.0 (kept_now before.1 kept) in
      (next.0, one_more_last before.1 _ refl (rw c.in-Ok-None-default.field-0-0-is at next.1));
  keeps = keeps_then c.messages.invariant.keeps (rw c.in-Ok-None-default.field-0-0-is at
      c.in-Ok-None-default.ensures.keeps);
}

pub returns-in-Ok-Some-default-clause-served : goal.returns-in-Ok-Some-default-clause-served
returns-in-Ok-Some-default-clause-served g c t state kept =
    let before = c.messages.invariant.so_far t state kept in
    let next = c.in-Ok-Some-default.ensures.exchange t before.0 (kept_now before.1 kept) in
    (next.0, served_last before.1 (rw c.in-Ok-Some-default.field-0-0-is at next.1))

pub returns-in-Err-clause-broken : goal.returns-in-Err-clause-broken
returns-in-Err-clause-broken g c t state kept =
    let before = c.messages.invariant.so_far t state kept in
    part_last before.1 (c.in-Err.ensures.broken t before.0 (kept_now before.1 kept))
