use Rattle.std.proofs.Common.{List, ℕ, subst, arith, length-append}
use Rattle.glacier_server.specs.Texts.{head_of_output, promised}
use Rattle.glacier_server.specs.Transfer.{SentAll, SentPart}
use Rattle.glacier_server.proofs.OutputLemmas.{behind_head, still_held, whole_output}
use Rattle.glacier_server.proofs.SendLemmas.{part_front}
use Rattle.glacier_server.proofs.StepLemmas.{sent_all, sent_part}
use Rattle.glacier_server.proofs.output_sender.send_output.Goals as goal
use Rattle.glacier_store.specs.Outputs.{stretch_bytes}

pub returns-in-Ok-clause-sends : goal.returns-in-Ok-clause-sends
returns-in-Ok-clause-sends g c t state held =
    let output = c.args.output.now in
    behind_head (head_of_output output.stretch c.args.reply.now c.args.stamp.now.date c.args.stamp.now.close)
    (stretch_bytes state output.account output.stretch) (promised output.stretch) c.send_pieces.result
    (subst (λ (l : List ℕ). SentAll (g.S.Disk.told c.args.station.now) (g.S.Disk.told c.send.new.self) l)
    c.print_head-end.ensures.head (sent_all _ c.send.ensures.call (c.in-Ok.ensures.sends t)))
    (c.send_pieces.ensures.sends t state (still_held c.in-Ok.ensures.call.disk.rests held))

pub returns-in-Err-clause-sends : goal.returns-in-Err-clause-sends
returns-in-Err-clause-sends g c t state held =
    let part = c.in-Err.ensures.failed t in
    let output = c.args.output.now in
    let head = head_of_output output.stretch c.args.reply.now c.args.stamp.now.date c.args.stamp.now.close in
    let bytes = stretch_bytes state output.account output.stretch in
    record {
      whole = omega (arith, length-append head bytes, whole_output (g.met.S.Disk.lawful t c.args.station.now) held output c.requires.there);
      sent = part_front head bytes
          (subst (λ (l : List ℕ). SentPart (g.S.Disk.told c.args.station.now) (g.S.Disk.told c.send.new.self) l)
          c.print_head-end.ensures.head (sent_part _ c.send.ensures.call part.0 part.1));
    }
