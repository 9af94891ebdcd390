use Rattle.std.proofs.Common.{◌∙◌, List, ℕ, arith, subst, sym}
use Rattle.glacier_server.specs.Transfer.{SentAll, SentPart}
use Rattle.glacier_server.proofs.BegunLemmas.{sends_none}
use Rattle.glacier_server.proofs.ExtentLemmas.{empty}
use Rattle.glacier_server.proofs.StepLemmas.{sent_all, sent_part}
use Rattle.glacier_server.proofs.reply_sender.send_interim.Goals as goal

pub returns-then-is_empty-clause-sent : goal.returns-then-is_empty-clause-sent
returns-then-is_empty-clause-sent g c t = sends_none _ _ (sym c.interim-line.ensures ∙ empty _ (grind (arith, c.is_empty.ensures, c.if-is_empty.true)))

pub returns-in-Ok-clause-sent : goal.returns-in-Ok-clause-sent
returns-in-Ok-clause-sent g c t =
    subst (λ (l : List ℕ). SentAll (g.S.Disk.told c.args.station.now) (g.S.Disk.told c.send.new.self) l) c.interim-line.ensures
    (sent_all _ c.send.ensures.call (c.in-Ok.ensures.sends t))

pub returns-in-Err-clause-failed : goal.returns-in-Err-clause-failed
returns-in-Err-clause-failed g c t =
    let part = c.in-Err.ensures.failed t in
    subst (λ (l : List ℕ). SentPart (g.S.Disk.told c.args.station.now) (g.S.Disk.told c.send.new.self) l) c.interim-line.ensures
    (sent_part _ c.send.ensures.call part.0 part.1)
