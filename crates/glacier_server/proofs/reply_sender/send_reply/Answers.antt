use Rattle.std.proofs.Common.{◌++◌, ◌∙◌, List, ℕ, Bool, take, [], sym, ap, subst, append-nil}
use Rattle.std.specs.Prelude.{if◌then◌else◌}
use Rattle.glacier_server.specs.Transfer.{SentAll, SentPart}
use Rattle.glacier_server.proofs.StepLemmas.{sent_all, sent_part}
use Rattle.glacier_server.proofs.SendLemmas.{sent_then, part_then, part_front}
use Rattle.glacier_server.proofs.reply_sender.send_reply.Goals as goal

pub returns-then-printed-clause-sent : goal.returns-then-printed-clause-sent
returns-then-printed-clause-sent g c t =
    subst (λ (l : List ℕ). SentAll (g.S.Disk.told c.args.station.now) (g.S.Disk.told c.send.new.self) l)
    (sym (append-nil _) ∙ ap (λ (b : Bool). take c.print-printed.result.end c.print-printed.new.into ++
    (if b then [] else c.args.reply.now.body)) (sym c.if-printed.true) ∙ c.print-printed.ensures.text)
    (sent_all _ c.send.ensures.call (c.in-Ok.ensures.sends t))

pub returns-in-Ok-send-clause-sent : goal.returns-in-Ok-send-clause-sent
returns-in-Ok-send-clause-sent g c t =
    subst (λ (l : List ℕ). SentAll (g.S.Disk.told c.args.station.now) (g.S.Disk.told c.send-in-Ok.new.self) l)
    (ap (λ (b : Bool). take c.print-printed.result.end c.print-printed.new.into ++
    (if b then [] else c.args.reply.now.body)) (sym c.if-printed.false) ∙ c.print-printed.ensures.text)
    (sent_then _ _ (sent_all _ c.send.ensures.call (c.in-Ok.ensures.sends t))
    (subst (λ (l : List ℕ). SentAll (g.S.Disk.told c.send.new.self)
    (g.S.Disk.told c.send-in-Ok.new.self) l) c.bytes.ensures (sent_all _ c.send-in-Ok.ensures.call
    (c.in-Ok-send.ensures.sends t))))

pub returns-in-Err-send-clause-failed : goal.returns-in-Err-send-clause-failed
returns-in-Err-send-clause-failed g c t =
    let part = c.in-Err-send.ensures.failed t in
    subst (λ (l : List ℕ). SentPart (g.S.Disk.told c.args.station.now) (g.S.Disk.told c.send-in-Ok.new.self) l)
    (ap (λ (b : Bool). take c.print-printed.result.end c.print-printed.new.into ++
    (if b then [] else c.args.reply.now.body)) (sym c.if-printed.false) ∙ c.print-printed.ensures.text)
    (part_then _ _ (sent_all _ c.send.ensures.call (c.in-Ok.ensures.sends t))
    (subst (λ (l : List ℕ). SentPart (g.S.Disk.told c.send.new.self)
    (g.S.Disk.told c.send-in-Ok.new.self) l) c.bytes.ensures
    (sent_part _ c.send-in-Ok.ensures.call part.0 part.1)))

pub returns-in-Err-clause-failed : goal.returns-in-Err-clause-failed
returns-in-Err-clause-failed g c t =
    let part = c.in-Err.ensures.failed t in
    subst (λ (l : List ℕ). SentPart (g.S.Disk.told c.args.station.now)
    (g.S.Disk.told c.send.new.self) l) c.print-printed.ensures.text
    (part_front _ _ (sent_part _ c.send.ensures.call part.0 part.1))
