use Rattle.std.proofs.Common.{sym, subst}
use Rattle.std.specs.Prelude.{Option}
use Rattle.glacier_machine.specs.declared.action.Output.{Output}
use Rattle.glacier_server.specs.Outputs.{SendsAnswer}
use Rattle.glacier_server.specs.Texts.{text_with}
use Rattle.glacier_server.specs.Transfer.{SentAll, SentPart}
use Rattle.glacier_server.proofs.OutputLemmas.{sends_answer}
use Rattle.glacier_server.proofs.answer_sender.send_text.Goals as goal

pub returns-in-Some-clause-sends : goal.returns-in-Some-clause-sends
returns-in-Some-clause-sends g c t state held =
    subst (λ (o : Option Output). SendsAnswer (g.S.Disk.told c.args.station.now) (g.S.Disk.told c.send_output.new.station) o
    (text_with state o c.args.answered.now.reply c.args.stamp.now.date c.args.stamp.now.close) c.send_output.result)
    (sym c.in-Some.is)
    (sends_answer _ _ _ _ c.send_output.result (c.send_output.ensures.sends t state held))

pub returns-in-Ok-clause-sends : goal.returns-in-Ok-clause-sends
returns-in-Ok-clause-sends g c t state held =
    subst (λ (o : Option Output). SentAll (g.S.Disk.told c.args.station.now) (g.S.Disk.told c.send_reply.new.station)
    (text_with state o c.args.answered.now.reply c.args.stamp.now.date c.args.stamp.now.close)) (sym c.in-None.is)
    (c.in-Ok.ensures.sent t)

pub returns-in-Err-clause-sends : goal.returns-in-Err-clause-sends
returns-in-Err-clause-sends g c t state held =
    subst (λ (o : Option Output). SentPart (g.S.Disk.told c.args.station.now) (g.S.Disk.told c.send_reply.new.station)
    (text_with state o c.args.answered.now.reply c.args.stamp.now.date c.args.stamp.now.close)) (sym c.in-None.is)
    (c.in-Err.ensures.failed t)
