use Rattle.std.proofs.Common.{◌≡◌, ◌≤◌, [], length, drop, arith}
use Rattle.glacier_server.specs.Transfer.{SentAll}
use Rattle.glacier_server.proofs.OutputLemmas.{sent_none, piece_sent, piece_part}
use Rattle.glacier_server.proofs.StepLemmas.{sent_all, sent_part}
use Rattle.glacier_server.proofs.output_sender.send_piece.Goals as goal
use Rattle.glacier_store.specs.Outputs.{stretch_bytes}

pub returns-in-Ok-send-clause-sends : goal.returns-in-Ok-send-clause-sends
returns-in-Ok-send-clause-sends g c t state held =
    let law = g.met.S.Disk.lawful t c.args.station.now in
    let after = g.met.S.Disk.lawful t c.read_output.new.disk in
    let alone = g.met.S.Disk.by_disk_keeps _ _ c.read_output.ensures.alone in
    let none : SentAll (g.S.Disk.told c.args.station.now) (g.S.Disk.told c.read_output.new.disk) [] =
    sent_none law after alone c.read_output.ensures.rests in
    let room : length c.read_output.new.into ≡ length c.args.piece.now = c.read_output.auto.into in
    let within : c.in-Ok.count ≤ length c.read_output.new.into = omega (arith, room, c.in-Ok.ensures.within) in
    piece_sent none c.in-Ok.count (length c.args.piece.now) c.read_output.new.into
    (drop c.args.at (stretch_bytes state c.args.output.now.account c.args.output.now.stretch)) within
    (c.in-Ok.ensures.bytes t state held.accounts held.held) (g.S.Disk.told c.send.new.self)
    (sent_all _ c.send.ensures.call (c.in-Ok-send.ensures.sends t))

pub returns-in-Err-send-clause-sends : goal.returns-in-Err-send-clause-sends
returns-in-Err-send-clause-sends g c t state held =
    let law = g.met.S.Disk.lawful t c.args.station.now in
    let after = g.met.S.Disk.lawful t c.read_output.new.disk in
    let alone = g.met.S.Disk.by_disk_keeps _ _ c.read_output.ensures.alone in
    let none : SentAll (g.S.Disk.told c.args.station.now) (g.S.Disk.told c.read_output.new.disk) [] =
    sent_none law after alone c.read_output.ensures.rests in
    let room : length c.read_output.new.into ≡ length c.args.piece.now = c.read_output.auto.into in
    let within : c.in-Ok.count ≤ length c.read_output.new.into = omega (arith, room, c.in-Ok.ensures.within) in
    let part = c.in-Err-send.ensures.failed t in
    piece_part none c.in-Ok.count (length c.args.piece.now) c.read_output.new.into
    (drop c.args.at (stretch_bytes state c.args.output.now.account c.args.output.now.stretch)) within
    (c.in-Ok.ensures.bytes t state held.accounts held.held) (g.S.Disk.told c.send.new.self)
    (sent_part _ c.send.ensures.call part.0 part.1)

pub returns-in-Err-clause-sends : goal.returns-in-Err-clause-sends
returns-in-Err-clause-sends g c t state held =
    sent_none (g.met.S.Disk.lawful t c.args.station.now) (g.met.S.Disk.lawful t c.read_output.new.disk)
    (g.met.S.Disk.by_disk_keeps _ _ c.read_output.ensures.alone) c.read_output.ensures.rests
