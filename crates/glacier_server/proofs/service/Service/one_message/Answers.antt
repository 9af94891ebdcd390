use Rattle.std.proofs.Common.{◌∙◌, ap, subst, refl, Ok}
use Rattle.glacier_http.specs.Step.{IsStep}
use Rattle.glacier_http.specs.declared.head_spans.HeadStep.{HeadStep}
use Rattle.glacier_http.specs.declared.head_spans.HeadStep.TheVariants as step
use Rattle.glacier_server.proofs.ExchangeLemmas.{ends_behind, fails_behind, exchanges_behind, breaks_behind, kept_behind}
use Rattle.glacier_server.proofs.ExtentLemmas.{content_small}
use Rattle.glacier_server.proofs.KeepLemmas.{keeps_then, keeps_break}
use Rattle.glacier_server.proofs.service.Service.one_message.Goals as goal

pub answer-requires-clause-small : goal.answer-requires-clause-small
answer-requires-clause-small g c κs lives =
    content_small c.next_head.new.unread c.next_head.new.room c.in-Ok-Head.spans
    (subst (λ (f : HeadStep). IsStep c.next_head.new.unread c.next_head.new.room f) c.in-Ok-Head.field-0-is c.in-Ok-Head.ensures.found)

pub returns-in-Ok-clause-exchange : goal.returns-in-Ok-clause-exchange
returns-in-Ok-clause-exchange g c t state kept =
    let answered = c.in-Ok.ensures.exchange t state (kept_behind (c.in-Ok-Head.ensures.takes t) kept) in
    (answered.0, exchanges_behind (c.in-Ok-Head.ensures.takes t) answered.1)

pub returns-in-Err-answer-clause-broken : goal.returns-in-Err-answer-clause-broken
returns-in-Err-answer-clause-broken g c t state kept =
    breaks_behind (c.in-Ok-Head.ensures.takes t)
    (c.in-Err-answer.ensures.broken t state (kept_behind (c.in-Ok-Head.ensures.takes t) kept))

pub returns-in-Ok-refuse-clause-exchange : goal.returns-in-Ok-refuse-clause-exchange
returns-in-Ok-refuse-clause-exchange g c t state kept =
    let bad : IsStep c.next_head.new.unread c.next_head.new.room (step.Bad c.in-Ok-Bad.cause) =
    subst (λ (f : HeadStep). IsStep c.next_head.new.unread c.next_head.new.room f) c.in-Ok-Bad.field-0-is c.in-Ok-Bad.ensures.found in
    (state, exchanges_behind (c.in-Ok-Bad.ensures.takes t) (c.in-Ok-refuse.ensures.exchange t _ (refl, bad.0, bad.1)))

pub returns-in-Err-refuse-clause-broken : goal.returns-in-Err-refuse-clause-broken
returns-in-Err-refuse-clause-broken g c t state kept =
    let bad : IsStep c.next_head.new.unread c.next_head.new.room (step.Bad c.in-Ok-Bad.cause) =
    subst (λ (f : HeadStep). IsStep c.next_head.new.unread c.next_head.new.room f) c.in-Ok-Bad.field-0-is c.in-Ok-Bad.ensures.found in
    breaks_behind (c.in-Ok-Bad.ensures.takes t) (c.in-Err-refuse.ensures.broken t _ (refl, bad.0, bad.1))

pub returns-in-Ok-Need-clause-exchange : goal.returns-in-Ok-Need-clause-exchange
returns-in-Ok-Need-clause-exchange g c t state kept = (
  state,
  ends_behind c.ended.result c.ended.ensures.of_none (c.in-Ok-Need.ensures.takes t) c.ended.ensures.end
      (subst (λ (f : HeadStep). IsStep c.next_head.new.unread c.next_head.new.room f) c.in-Ok-Need.field-0-is c.in-Ok-Need.ensures.found)
      (c.next_head.ensures.end t (c.in-Ok-Need.is ∙ ap (λ (f : HeadStep). Ok f) c.in-Ok-Need.field-0-is)) _ refl,
)

pub returns-in-Err-clause-exchange : goal.returns-in-Err-clause-exchange
returns-in-Err-clause-exchange g c t state kept = (state, fails_behind (c.in-Err.ensures.takes t) c.in-Err.ensures.need _ refl)

pub returns-in-Err-refuse-clause-fault : goal.returns-in-Err-refuse-clause-fault
returns-in-Err-refuse-clause-fault g c =
    (keeps_then c.in-Ok-Bad.ensures.keeps c.in-Err-refuse.ensures.keeps).counts.2

pub returns-in-Err-refuse-clause-keeps : goal.returns-in-Err-refuse-clause-keeps
returns-in-Err-refuse-clause-keeps g c =
    keeps_break (keeps_then c.in-Ok-Bad.ensures.keeps c.in-Err-refuse.ensures.keeps)
