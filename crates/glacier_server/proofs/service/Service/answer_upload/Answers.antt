use Rattle.std.proofs.Common.{rules, ◌≤◌, ◌-◌, ℕ, drop, length, refl, subst, sym, take}
use Rattle.glacier_server.specs.Exchange.{standing}
use Rattle.glacier_server.specs.Uploads.{HasEndedBody, upload_of}
use Rattle.glacier_server.specs.declared.upload.BodyEnd.{BodyEnd}
use Rattle.glacier_server.proofs.ExtentLemmas.{head_fits}
use Rattle.glacier_server.proofs.PieceLemmas.{piece_for}
use Rattle.glacier_server.proofs.UploadEnds.{broke, uploaded}
use Rattle.glacier_server.proofs.UploadExchanges.{cut_off, few_here, receive_failed, sized, stands}
use Rattle.glacier_server.proofs.service.Service.answer_upload.Goals as goal

pub extent_of-extent-requires : goal.extent_of-extent-requires
extent_of-extent-requires g c =
    subst (λ (k : ℕ). c.args.spans.now.head_length ≤ k) (sym c.count-length.ensures.same)
    (head_fits c.args.buffers.now.unread c.args.buffers.now.head c.args.spans.now c.requires.good)

pub take_upload-requires-clause-size : goal.take_upload-requires-clause-size
take_upload-requires-clause-size g c κs lives =
    sized c.args.spans.now c.args.buffers.now.unread _ _ _ _ _ (subst (λ (k : ℕ). c.args.spans.now.head_length ≤ k)
    (sym c.count-length.ensures.same)
    (head_fits c.args.buffers.now.unread c.args.buffers.now.head c.args.spans.now c.requires.good))
    c.count-length.ensures.same c.bytes.ensures.same c.extent_of-extent.ensures.used c.extent_of-extent.ensures.left
    c.requires.size

pub take_upload-requires-clause-piece : goal.take_upload-requires-clause-piece
take_upload-requires-clause-piece g c κs lives = piece_for _ _ (search rules) (few_here _ _ _ _ c.bytes.ensures.few)

pub returns-in-Ok-Cut-clause-exchange : goal.returns-in-Ok-Cut-clause-exchange
returns-in-Ok-Cut-clause-exchange g c t old before state begun admits =
    let u = upload_of c.args.store c.args.rules.now c.args.m c.args.ask.now
    (take (c.extent_of-extent.result.used - c.args.spans.now.head_length)
    (drop c.args.spans.now.head_length c.bytes.result.now))
    c.extent_of-extent.result.left in
    let y = stands c.args.self.now.config.now (standing c.args.count c.args.buffers.now.unread before)
    c.args.buffers.now.head c.args.spans.now c.extent_of-extent.result.used c.extent_of-extent.result.left
    c.args.reading c.count-length.result c.requires.good c.count-length.ensures.same
    c.extent_of-extent.ensures.used c.extent_of-extent.ensures.left c.bytes.result.now c.bytes.ensures.same u refl refl state _ _ begun in
    let x = subst (λ (e : BodyEnd). HasEndedBody u (length c.deref_mut.result.now) (g.S.Disk.told c.args.station.now)
    (g.S.Disk.told c.take_upload.new.station) e)
    c.in-Ok-Cut.field-0-is (c.in-Ok-Cut.ensures.ended t) in (
      state,
      cut_off y x.0 c.in-Ok-Cut.left x.1 x.2 _ c.count-length.ensures.same _ refl,
    )

pub returns-in-Ok-Failed-clause-exchange : goal.returns-in-Ok-Failed-clause-exchange
returns-in-Ok-Failed-clause-exchange g c t old before state begun admits =
    let u = upload_of c.args.store c.args.rules.now c.args.m c.args.ask.now
    (take (c.extent_of-extent.result.used - c.args.spans.now.head_length)
    (drop c.args.spans.now.head_length c.bytes.result.now))
    c.extent_of-extent.result.left in
    let y = stands c.args.self.now.config.now (standing c.args.count c.args.buffers.now.unread before)
    c.args.buffers.now.head c.args.spans.now c.extent_of-extent.result.used c.extent_of-extent.result.left
    c.args.reading c.count-length.result c.requires.good c.count-length.ensures.same
    c.extent_of-extent.ensures.used c.extent_of-extent.ensures.left c.bytes.result.now c.bytes.ensures.same u refl refl state _ _ begun in
    let x = subst (λ (e : BodyEnd). HasEndedBody u (length c.deref_mut.result.now) (g.S.Disk.told c.args.station.now)
    (g.S.Disk.told c.take_upload.new.station) e)
    c.in-Ok-Failed.field-0-is (c.in-Ok-Failed.ensures.ended t) in
    (state, receive_failed y x _ refl)

pub returns-in-Err-clause-broken : goal.returns-in-Err-clause-broken
returns-in-Err-clause-broken g c t old before state begun admits =
    let u = upload_of c.args.store c.args.rules.now c.args.m c.args.ask.now
    (take (c.extent_of-extent.result.used - c.args.spans.now.head_length)
    (drop c.args.spans.now.head_length c.bytes.result.now))
    c.extent_of-extent.result.left in
    let y = stands c.args.self.now.config.now (standing c.args.count c.args.buffers.now.unread before)
    c.args.buffers.now.head c.args.spans.now c.extent_of-extent.result.used c.extent_of-extent.result.left
    c.args.reading c.count-length.result c.requires.good c.count-length.ensures.same
    c.extent_of-extent.ensures.used c.extent_of-extent.ensures.left c.bytes.result.now c.bytes.ensures.same u refl refl state _ _ begun in
    broke y c.requires.bulk admits c.in-Err.fault (c.in-Err.ensures.broken t)

pub returns-in-Ok-Done-clause-exchange : goal.returns-in-Ok-Done-clause-exchange
returns-in-Ok-Done-clause-exchange g c t old before state begun admits =
    let u = upload_of c.args.store c.args.rules.now c.args.m c.args.ask.now
    (take (c.extent_of-extent.result.used - c.args.spans.now.head_length)
    (drop c.args.spans.now.head_length c.bytes.result.now))
    c.extent_of-extent.result.left in
    let y = stands c.args.self.now.config.now (standing c.args.count c.args.buffers.now.unread before)
    c.args.buffers.now.head c.args.spans.now c.extent_of-extent.result.used c.extent_of-extent.result.left
    c.args.reading c.count-length.result c.requires.good c.count-length.ensures.same
    c.extent_of-extent.ensures.used c.extent_of-extent.ensures.left c.bytes.result.now c.bytes.ensures.same u refl refl state _ _ begun in
    let x = subst (λ (e : BodyEnd). HasEndedBody u (length c.deref_mut.result.now) (g.S.Disk.told c.args.station.now)
    (g.S.Disk.told c.take_upload.new.station) e)
    c.in-Ok-Done.field-0-is (c.in-Ok-Done.ensures.ended t) in
    c.send_answer.ensures.exchange t old (standing c.args.count c.args.buffers.now.unread before) _ refl refl
    (uploaded y c.requires.bulk admits c.in-Ok-Done.reply x c.only_reply-answered.result c.only_reply-answered.ensures)

pub returns-in-Ok-Done-clause-broken : goal.returns-in-Ok-Done-clause-broken
returns-in-Ok-Done-clause-broken g c t old before state begun admits =
    let u = upload_of c.args.store c.args.rules.now c.args.m c.args.ask.now
    (take (c.extent_of-extent.result.used - c.args.spans.now.head_length)
    (drop c.args.spans.now.head_length c.bytes.result.now))
    c.extent_of-extent.result.left in
    let y = stands c.args.self.now.config.now (standing c.args.count c.args.buffers.now.unread before)
    c.args.buffers.now.head c.args.spans.now c.extent_of-extent.result.used c.extent_of-extent.result.left
    c.args.reading c.count-length.result c.requires.good c.count-length.ensures.same
    c.extent_of-extent.ensures.used c.extent_of-extent.ensures.left c.bytes.result.now c.bytes.ensures.same u refl refl state _ _ begun in
    let x = subst (λ (e : BodyEnd). HasEndedBody u (length c.deref_mut.result.now) (g.S.Disk.told c.args.station.now)
    (g.S.Disk.told c.take_upload.new.station) e)
    c.in-Ok-Done.field-0-is (c.in-Ok-Done.ensures.ended t) in
    c.send_answer.ensures.broken t old (standing c.args.count c.args.buffers.now.unread before) _ refl refl
    (uploaded y c.requires.bulk admits c.in-Ok-Done.reply x c.only_reply-answered.result c.only_reply-answered.ensures)
