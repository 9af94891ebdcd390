use borrow.Rule.Slice.PartMut.{put_mid}
use Rattle.std.proofs.Common.{rules, ◌≡◌, ◌≤◌, ◌-◌, ◌+◌, ◌∙◌, ℕ, length, take, refl, arith, ap, Ok}
use Rattle.std.proofs.lemmas.List.{length-take-le}
use Rattle.glacier_server.proofs.KeepLemmas.{keeps_self, keeps_then}
use Rattle.glacier_server.proofs.ListLemmas.{filled_more}
use Rattle.glacier_server.proofs.StepLemmas.{takes_once, none_coming}
use Rattle.glacier_server.proofs.TransferLemmas.{behind_none, behind_once, behind_more}
use Rattle.glacier_server.proofs.body.keep_rest.Goals as goal

pub loop-filled-init : goal.loop-filled-init
loop-filled-init g c = record {
  begun = omega arith;
  within = c.requires.order;
  size = search rules;
  takes = λ t. behind_none _ _ _;
  reads = refl;
  keeps = keeps_self _ c.requires.connected;
}

pub returns-then-count-eq0-clause-takes : goal.returns-then-count-eq0-clause-takes
returns-then-count-eq0-clause-takes g c t =
    let size : length c.receive.new.into ≡ c.args.end - c.loop-filled.filled = search rules in
    let kept : length (take c.loop-filled.filled c.loop-filled.buffer) ≡ c.loop-filled.filled = length-take-le c.loop-filled.filled c.loop-filled.buffer (omega (arith, c.loop-filled.auto.buffer, c.requires.within, c.loop-filled-test.true)) in
    let none : c.loop-filled.filled ≡ c.loop-filled.filled + c.in-Ok.count = omega (arith, c.if-count-eq0.true) in
    behind_more (c.loop-filled.invariant.takes t) (omega (arith, kept, c.loop-filled-test.true))
    (behind_once (take c.loop-filled.filled c.loop-filled.buffer)
    (ap (λ (n : ℕ). take n (put_mid c.loop-filled.filled (c.args.end - c.loop-filled.filled) c.loop-filled.buffer c.receive.new.into)) none
    ∙ filled_more c.loop-filled.filled c.in-Ok.count (c.args.end - c.loop-filled.filled) c.loop-filled.buffer c.receive.new.into
    (omega (arith, c.loop-filled.auto.buffer, c.requires.within, c.loop-filled-test.true)) size (omega (arith, c.if-count-eq0.true)))
    (takes_once (Ok c.in-Ok.count) _ c.receive.new.into c.in-Ok.ensures.call (c.in-Ok.ensures.receives t)))

pub returns-then-count-eq0-clause-end : goal.returns-then-count-eq0-clause-end
returns-then-count-eq0-clause-end g c t some =
    let size : length c.receive.new.into ≡ c.args.end - c.loop-filled.filled = search rules in
    none_coming ((c.in-Ok.ensures.receives t).end (search (rules, arith)) (ap (λ (n : ℕ). Ok n) c.if-count-eq0.true))

pub returns-then-count-eq0-clause-reads : goal.returns-then-count-eq0-clause-reads
returns-then-count-eq0-clause-reads g c = c.in-Ok.ensures.call.disk.rests.same ∙ c.loop-filled.invariant.reads

pub loop-filled-preserved : goal.loop-filled-preserved
loop-filled-preserved g c =
    let size : length c.receive.new.into ≡ c.args.end - c.loop-filled.filled = search rules in
    let few : c.in-Ok.count ≤ c.args.end - c.loop-filled.filled = search (rules, arith) in
    let kept : length (take c.loop-filled.filled c.loop-filled.buffer) ≡ c.loop-filled.filled = length-take-le c.loop-filled.filled c.loop-filled.buffer (omega (arith, c.loop-filled.auto.buffer, c.requires.within, c.loop-filled-test.true)) in record {
      begun = omega (arith, c.loop-filled.invariant.begun);
      within = omega (arith, few, c.loop-filled-test.true);
      size = search rules;
      takes = λ t. behind_more (c.loop-filled.invariant.takes t) (omega (arith, kept, c.loop-filled-test.true))
          (behind_once (take c.loop-filled.filled c.loop-filled.buffer)
          (filled_more c.loop-filled.filled c.in-Ok.count (c.args.end - c.loop-filled.filled) c.loop-filled.buffer c.receive.new.into
          (omega (arith, c.loop-filled.auto.buffer, c.requires.within, c.loop-filled-test.true)) size few)
          (takes_once (Ok c.in-Ok.count) _ c.receive.new.into c.in-Ok.ensures.call (c.in-Ok.ensures.receives t)));
      reads = c.in-Ok.ensures.call.disk.rests.same ∙ c.loop-filled.invariant.reads;
      keeps = keeps_then c.loop-filled.invariant.keeps (search rules);
    }

pub returns-in-Err-clause-failed : goal.returns-in-Err-clause-failed
returns-in-Err-clause-failed g c t =
    let size : length c.receive.new.into ≡ c.args.end - c.loop-filled.filled = search rules in
    let kept : length (take c.loop-filled.filled c.loop-filled.buffer) ≡ c.loop-filled.filled = length-take-le c.loop-filled.filled c.loop-filled.buffer (omega (arith, c.loop-filled.auto.buffer, c.requires.within, c.loop-filled-test.true)) in
    let none : c.loop-filled.filled ≡ c.loop-filled.filled + 0 = omega arith in (
      c.loop-filled.filled,
      c.loop-filled-test.true,
      c.loop-filled.invariant.begun,
      behind_more (c.loop-filled.invariant.takes t) (omega (arith, kept, c.loop-filled-test.true))
          (behind_once (take c.loop-filled.filled c.loop-filled.buffer)
          (ap (λ (n : ℕ). take n (put_mid c.loop-filled.filled (c.args.end - c.loop-filled.filled) c.loop-filled.buffer c.receive.new.into)) none
          ∙ filled_more c.loop-filled.filled 0 (c.args.end - c.loop-filled.filled) c.loop-filled.buffer c.receive.new.into
          (omega (arith, c.loop-filled.auto.buffer, c.requires.within, c.loop-filled-test.true)) size (omega arith))
          (takes_once _ _ c.receive.new.into c.in-Err.ensures.call (c.in-Err.ensures.receives t))),
    )

pub returns-in-Err-clause-reads : goal.returns-in-Err-clause-reads
returns-in-Err-clause-reads g c = c.in-Err.ensures.call.disk.rests.same ∙ c.loop-filled.invariant.reads
