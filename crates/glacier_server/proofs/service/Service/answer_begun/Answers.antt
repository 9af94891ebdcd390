use Rattle.std.proofs.Common.{rules, ◌∙◌, sym, ap, refl, ℕ, List, take}
use Rattle.glacier_server.specs.Exchange.{standing}
use Rattle.glacier_server.specs.Placed.{placed_as}
use Rattle.glacier_server.proofs.DoneLemmas.{all_done, broken_off, kept_as}
use Rattle.glacier_server.proofs.ExtentLemmas.{good_of}
use Rattle.glacier_server.proofs.KeepLemmas.{keeps_then, keeps_disk, keeps_broken, broken_then}
use Rattle.glacier_server.proofs.ListLemmas.{written}
use Rattle.glacier_server.proofs.service.Service.answer_begun.Goals as goal

pub reply_to_message-replied-requires-clause-good : goal.reply_to_message-replied-requires-clause-good
reply_to_message-replied-requires-clause-good g c κs lives =
    good_of c.args.buffers.now.unread c.args.buffers.now.head c.args.spans.now c.requires.good

pub returns-in-Err-clause-exchange : goal.returns-in-Err-clause-exchange
returns-in-Err-clause-exchange g c t old state begun =
    (state, c.in-Err.ensures.ended t c.args.self.now.config.now old _ _ _ c.args.reading refl refl begun)

pub returns-in-Err-replied-clause-broken : goal.returns-in-Err-replied-clause-broken
returns-in-Err-replied-clause-broken g c t old state begun =
    let from = standing c.args.count c.args.buffers.now.unread (placed_as c.args.store state) in
    let kept = c.front_of-kept.ensures ∙ ap (λ (l : List ℕ). take c.args.spans.now.content_length l)
    (c.deref.ensures.value ∙ written _ _ _ (search rules)) in
    let body = kept_as (sym kept)
    (c.in-Ok.ensures.body t c.args.self.now.config.now old from from.placed c.args.reading refl begun) in
    let law = g.met.S.Disk.lawful t c.reply_to_message-replied.new.disk in
    let alone = g.met.S.Disk.by_disk_keeps c.take_message.new.station c.reply_to_message-replied.new.disk
    c.reply_to_message-replied.ensures.alone in
    broken_off body c.requires.plain law alone c.in-Err-replied.fault c.in-Err-replied.ensures.fault
    (c.in-Err-replied.ensures.keeps t)

pub returns-clause-exchange : goal.returns-clause-exchange
returns-clause-exchange g c t old state begun =
    let from = standing c.args.count c.args.buffers.now.unread (placed_as c.args.store state) in
    let kept = c.front_of-kept.ensures ∙ ap (λ (l : List ℕ). take c.args.spans.now.content_length l)
    (c.deref.ensures.value ∙ written _ _ _ (search rules)) in
    let body = kept_as (sym kept)
    (c.in-Ok.ensures.body t c.args.self.now.config.now old from from.placed c.args.reading refl begun) in
    let law = g.met.S.Disk.lawful t c.reply_to_message-replied.new.disk in
    let alone = g.met.S.Disk.by_disk_keeps c.take_message.new.station c.reply_to_message-replied.new.disk
    c.reply_to_message-replied.ensures.alone in
    c.send_answer.ensures.exchange t old from _ refl refl
    (all_done body c.requires.plain law alone c.in-Ok-replied.replied c.in-Ok-replied.ensures.answer
    (c.in-Ok-replied.ensures.keeps t))

pub returns-clause-broken : goal.returns-clause-broken
returns-clause-broken g c t old state begun =
    let from = standing c.args.count c.args.buffers.now.unread (placed_as c.args.store state) in
    let kept = c.front_of-kept.ensures ∙ ap (λ (l : List ℕ). take c.args.spans.now.content_length l)
    (c.deref.ensures.value ∙ written _ _ _ (search rules)) in
    let body = kept_as (sym kept)
    (c.in-Ok.ensures.body t c.args.self.now.config.now old from from.placed c.args.reading refl begun) in
    let law = g.met.S.Disk.lawful t c.reply_to_message-replied.new.disk in
    let alone = g.met.S.Disk.by_disk_keeps c.take_message.new.station c.reply_to_message-replied.new.disk
    c.reply_to_message-replied.ensures.alone in
    c.send_answer.ensures.broken t old from _ refl refl
    (all_done body c.requires.plain law alone c.in-Ok-replied.replied c.in-Ok-replied.ensures.answer
    (c.in-Ok-replied.ensures.keeps t))

pub returns-in-Err-replied-clause-keeps : goal.returns-in-Err-replied-clause-keeps
returns-in-Err-replied-clause-keeps g c =
    let alone = g.met.S.Disk.by_disk_keeps c.take_message.new.station c.reply_to_message-replied.new.disk
    c.reply_to_message-replied.ensures.alone in
    keeps_then c.in-Ok.ensures.keeps (keeps_broken alone c.in-Ok.ensures.keeps.connected)

pub returns-in-Err-replied-clause-fault : goal.returns-in-Err-replied-clause-fault
returns-in-Err-replied-clause-fault g c =
    broken_then c.in-Err-replied.fault _ _ _ c.in-Ok.ensures.keeps c.in-Err-replied.ensures.fault

pub returns-clause-keeps : goal.returns-clause-keeps
returns-clause-keeps g c =
    let alone = g.met.S.Disk.by_disk_keeps c.take_message.new.station c.reply_to_message-replied.new.disk
    c.reply_to_message-replied.ensures.alone in
    let disk = keeps_disk alone c.in-Ok.ensures.keeps.connected c.in-Ok-replied.ensures.fault in
    keeps_then (keeps_then c.in-Ok.ensures.keeps disk) c.send_answer.ensures.keeps
