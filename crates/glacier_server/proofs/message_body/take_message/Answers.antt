use Rattle.std.proofs.Common.{◌<◌, ◌≤◌, ◌∙◌, sym, ap, subst, ℕ, length, arith}
use Rattle.glacier_server.proofs.AnswerLemmas.{kept_body}
use Rattle.glacier_server.proofs.ExtentLemmas.{extends_by, head_fits, step_at}
use Rattle.glacier_server.proofs.MessageLemmas.{body_cut, body_failed, has_body}
use Rattle.glacier_server.proofs.message_body.take_message.Goals as goal

pub extent_of-extent-requires : goal.extent_of-extent-requires
extent_of-extent-requires g c =
    subst (λ (k : ℕ). c.args.spans.now.head_length ≤ k) (sym c.count-length.ensures.same)
    (head_fits c.args.unread.now c.args.room.now c.args.spans.now c.requires.good)

pub returns-in-Ok-eq0-clause-body : goal.returns-in-Ok-eq0-clause-body
returns-in-Ok-eq0-clause-body g c t config old from now reading same begun =
    let is = step_at (sym same) c.requires.good in
    let extends = extends_by from.unread c.args.spans.now _ _ _ (c.count-length.ensures.same ∙ ap length (sym same))
    c.extent_of-extent.ensures.used c.extent_of-extent.ensures.left in
    let takes = c.in-Ok-eq0.ensures.takes t in
    has_body config from c.args.room.now c.args.spans.now _ _ is extends begun takes.rest c.in-Ok-eq0.field-0-test _
    (kept_body config from c.args.room.now c.args.spans.now _ _ reading is extends _ c.bytes.result.now
    (c.bytes.ensures.same ∙ sym same) _
    (takes.keeps c.in-Ok-eq0.field-0-test))

pub returns-in-Ok-clause-ended : goal.returns-in-Ok-clause-ended
returns-in-Ok-clause-ended g c t config old from to now reading same leads begun =
    let is = step_at (sym same) c.requires.good in
    let extends = extends_by from.unread c.args.spans.now _ _ _ (c.count-length.ensures.same ∙ ap length (sym same))
    c.extent_of-extent.ensures.used c.extent_of-extent.ensures.left in
    let some : 0 < c.in-Ok.left = omega (arith, c.in-Ok.left-test) in
    body_cut config from c.args.room.now c.args.spans.now _ _ is extends begun (c.in-Ok.ensures.takes t).rest some
    (c.in-Ok.ensures.end t some) _ (c.count-length.ensures.same ∙ ap length (sym same)) to (sym leads)

pub returns-in-Err-clause-ended : goal.returns-in-Err-clause-ended
returns-in-Err-clause-ended g c t config old from to now reading same leads begun =
    let is = step_at (sym same) c.requires.good in
    let extends = extends_by from.unread c.args.spans.now _ _ _ (c.count-length.ensures.same ∙ ap length (sym same))
    c.extent_of-extent.ensures.used c.extent_of-extent.ensures.left in
    let failed = c.in-Err.ensures.failed t in
    body_failed config from c.args.room.now c.args.spans.now _ _ is extends begun failed.2 failed.1 to (sym leads)
