use Rattle.std.proofs.Common.{refl}
use Rattle.glacier_server.specs.Exchange.{standing}
use Rattle.glacier_server.specs.Placed.{placed_as}
use Rattle.glacier_server.specs.declared.admission.Admission.TheVariants.{Refused, Taken}
use Rattle.glacier_server.proofs.BegunLemmas.{has_begun, interim_unsent}
use Rattle.glacier_server.proofs.KeepLemmas.{keeps_then, keeps_disk, keeps_broken}
use Rattle.glacier_server.proofs.PassLemmas.{admits_at, has_passed, pass_broken, passed_as}
use Rattle.glacier_server.proofs.service.Service.answer_bulk.Goals as goal

pub returns-in-Err-clause-broken : goal.returns-in-Err-clause-broken
returns-in-Err-clause-broken g c t old state read =
    let law = g.met.S.Disk.lawful t c.admit_message-admitted.new.disk in
    let alone = g.met.S.Disk.by_disk_keeps c.args.station.now c.admit_message-admitted.new.disk c.admit_message-admitted.ensures.alone in
    pass_broken c.args.self.now.config.now (standing c.args.count c.args.buffers.now.unread (placed_as c.args.store state))
    c.args.spans.now c.requires.good c.requires.bulk c.args.reading read law alone c.in-Err.fault c.in-Err.ensures.fault
    (c.in-Err.ensures.keeps t)

pub returns-in-Err-clause-keeps : goal.returns-in-Err-clause-keeps
returns-in-Err-clause-keeps g c =
    keeps_broken (g.met.S.Disk.by_disk_keeps c.args.station.now c.admit_message-admitted.new.disk c.admit_message-admitted.ensures.alone)
    c.requires.connected

pub answer_refused-requires-clause-open : goal.answer_refused-requires-clause-open
answer_refused-requires-clause-open g c κs within =
    let alone = g.met.S.Disk.by_disk_keeps c.args.station.now c.admit_message-admitted.new.disk c.admit_message-admitted.ensures.alone in
    c.in-Ok-send_interim.ensures.keeps.opened (alone.opened c.requires.open)

pub returns-in-Refused-clause-exchange : goal.returns-in-Refused-clause-exchange
returns-in-Refused-clause-exchange g c t old state read =
    let config = c.args.self.now.config.now in
    let from = standing c.args.count c.args.buffers.now.unread (placed_as c.args.store state) in
    let law = g.met.S.Disk.lawful t c.admit_message-admitted.new.disk in
    let alone = g.met.S.Disk.by_disk_keeps c.args.station.now c.admit_message-admitted.new.disk c.admit_message-admitted.ensures.alone in
    let now = has_passed config from c.args.spans.now c.requires.good c.requires.bulk c.args.reading read law alone c.in-Ok.admitted
    (c.in-Ok.ensures.keeps t) in
    c.answer_refused.ensures.exchange t old (placed_as c.args.store state) _
    (has_begun config from c.args.spans.now c.requires.good _ now (c.in-Ok-send_interim.ensures.sent t))
    (admits_at config from c.args.reading c.args.spans.now.content_length c.in-Ok.admitted.1 c.in-Ok.admitted.0 read.kept.accounts
    c.in-Ok.ensures.admits (Refused c.in-Refused.reply) c.in-Refused.is)

pub returns-in-Refused-clause-broken : goal.returns-in-Refused-clause-broken
returns-in-Refused-clause-broken g c t old state read =
    let config = c.args.self.now.config.now in
    let from = standing c.args.count c.args.buffers.now.unread (placed_as c.args.store state) in
    let law = g.met.S.Disk.lawful t c.admit_message-admitted.new.disk in
    let alone = g.met.S.Disk.by_disk_keeps c.args.station.now c.admit_message-admitted.new.disk c.admit_message-admitted.ensures.alone in
    let now = has_passed config from c.args.spans.now c.requires.good c.requires.bulk c.args.reading read law alone c.in-Ok.admitted
    (c.in-Ok.ensures.keeps t) in
    c.answer_refused.ensures.broken t old (placed_as c.args.store state) _
    (has_begun config from c.args.spans.now c.requires.good _ now (c.in-Ok-send_interim.ensures.sent t))
    (admits_at config from c.args.reading c.args.spans.now.content_length c.in-Ok.admitted.1 c.in-Ok.admitted.0 read.kept.accounts
    c.in-Ok.ensures.admits (Refused c.in-Refused.reply) c.in-Refused.is)

pub returns-in-Refused-clause-keeps : goal.returns-in-Refused-clause-keeps
returns-in-Refused-clause-keeps g c =
    let alone = g.met.S.Disk.by_disk_keeps c.args.station.now c.admit_message-admitted.new.disk c.admit_message-admitted.ensures.alone in
    keeps_then (keeps_then (keeps_disk alone c.requires.connected c.in-Ok.ensures.fault) c.in-Ok-send_interim.ensures.keeps)
    c.answer_refused.ensures.keeps

pub returns-in-Taken-clause-exchange : goal.returns-in-Taken-clause-exchange
returns-in-Taken-clause-exchange g c t old state read =
    let config = c.args.self.now.config.now in
    let from = standing c.args.count c.args.buffers.now.unread (placed_as c.args.store state) in
    let law = g.met.S.Disk.lawful t c.admit_message-admitted.new.disk in
    let alone = g.met.S.Disk.by_disk_keeps c.args.station.now c.admit_message-admitted.new.disk c.admit_message-admitted.ensures.alone in
    let now = has_passed config from c.args.spans.now c.requires.good c.requires.bulk c.args.reading read law alone c.in-Ok.admitted
    (c.in-Ok.ensures.keeps t) in
    c.answer_upload.ensures.exchange t old (placed_as c.args.store state) _
    (has_begun config from c.args.spans.now c.requires.good _ now (c.in-Ok-send_interim.ensures.sent t))
    (admits_at config from c.args.reading c.args.spans.now.content_length c.in-Ok.admitted.1 c.in-Ok.admitted.0 read.kept.accounts
    c.in-Ok.ensures.admits (Taken c.in-Taken.rules c.in-Taken.m c.in-Taken.ask) c.in-Taken.is)

pub returns-in-Taken-clause-broken : goal.returns-in-Taken-clause-broken
returns-in-Taken-clause-broken g c t old state read =
    let config = c.args.self.now.config.now in
    let from = standing c.args.count c.args.buffers.now.unread (placed_as c.args.store state) in
    let law = g.met.S.Disk.lawful t c.admit_message-admitted.new.disk in
    let alone = g.met.S.Disk.by_disk_keeps c.args.station.now c.admit_message-admitted.new.disk c.admit_message-admitted.ensures.alone in
    let now = has_passed config from c.args.spans.now c.requires.good c.requires.bulk c.args.reading read law alone c.in-Ok.admitted
    (c.in-Ok.ensures.keeps t) in
    c.answer_upload.ensures.broken t old (placed_as c.args.store state) _
    (has_begun config from c.args.spans.now c.requires.good _ now (c.in-Ok-send_interim.ensures.sent t))
    (admits_at config from c.args.reading c.args.spans.now.content_length c.in-Ok.admitted.1 c.in-Ok.admitted.0 read.kept.accounts
    c.in-Ok.ensures.admits (Taken c.in-Taken.rules c.in-Taken.m c.in-Taken.ask) c.in-Taken.is)

pub returns-in-Taken-clause-keeps : goal.returns-in-Taken-clause-keeps
returns-in-Taken-clause-keeps g c =
    let alone = g.met.S.Disk.by_disk_keeps c.args.station.now c.admit_message-admitted.new.disk c.admit_message-admitted.ensures.alone in
    keeps_then (keeps_then (keeps_disk alone c.requires.connected c.in-Ok.ensures.fault) c.in-Ok-send_interim.ensures.keeps)
    c.answer_upload.ensures.keeps

pub returns-in-Err-send_interim-clause-exchange : goal.returns-in-Err-send_interim-clause-exchange
returns-in-Err-send_interim-clause-exchange g c t old state read =
    let config = c.args.self.now.config.now in
    let from = standing c.args.count c.args.buffers.now.unread (placed_as c.args.store state) in
    let law = g.met.S.Disk.lawful t c.admit_message-admitted.new.disk in
    let alone = g.met.S.Disk.by_disk_keeps c.args.station.now c.admit_message-admitted.new.disk c.admit_message-admitted.ensures.alone in
    let now = has_passed config from c.args.spans.now c.requires.good c.requires.bulk c.args.reading read law alone c.in-Ok.admitted
    (c.in-Ok.ensures.keeps t) in (
      (passed_as config from c.args.spans.now c.requires.good c.requires.bulk c.args.reading c.in-Ok.admitted.1).state,
      interim_unsent config from c.args.spans.now c.requires.good _ now (c.in-Err-send_interim.ensures.failed t) _ refl,
    )

pub returns-in-Err-send_interim-clause-keeps : goal.returns-in-Err-send_interim-clause-keeps
returns-in-Err-send_interim-clause-keeps g c =
    let alone = g.met.S.Disk.by_disk_keeps c.args.station.now c.admit_message-admitted.new.disk c.admit_message-admitted.ensures.alone in
    keeps_then (keeps_disk alone c.requires.connected c.in-Ok.ensures.fault) c.in-Err-send_interim.ensures.keeps
