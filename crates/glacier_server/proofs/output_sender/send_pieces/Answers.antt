use Rattle.std.proofs.Common.{◌≡◌, ◌<◌, ℕ, min, length, take, drop, arith, refl, length-append, length-drop}
use Rattle.std.proofs.lemmas.List.{length-take}
use Rattle.glacier_server.specs.Texts.{promised}
use Rattle.glacier_server.proofs.OutputLemmas.{first_all, first_failed, first_more, first_none, only_self, only_then, still_held, whole_output}
use Rattle.glacier_server.proofs.output_sender.send_pieces.Goals as goal
use Rattle.glacier_store.specs.Outputs.{stretch_bytes}

pub loop-sent-init : goal.loop-sent-init
loop-sent-init g c = record {
  within = omega arith;
  size = refl;
  sends = λ t state held. first_none _ _;
  only = only_self _ c.requires.ready.connected;
}

pub loop-sent-preserved : goal.loop-sent-preserved
loop-sent-preserved g c =
    let most : ℕ = c.min-most.result in
    let room : length (take most c.loop-sent.buffer) ≡ min most (length c.loop-sent.buffer) = length-take most c.loop-sent.buffer in
    record {
      within = omega (arith, c.in-Ok.ensures.within, room, c.min-most.ensures, c.loop-sent-test.true, c.length_of-length.ensures);
      size = omega (arith, length-append c.send_piece.new.piece (drop most c.loop-sent.buffer), c.send_piece.auto.piece, room, length-drop most c.loop-sent.buffer, c.loop-sent.invariant.size, c.min-most.ensures);
      sends = λ t state held. first_more (stretch_bytes state c.args.output.now.account c.args.output.now.stretch)
          c.loop-sent.sent (length (take most c.loop-sent.buffer)) (c.loop-sent.invariant.sends t state held)
          c.in-Ok.count (c.in-Ok.ensures.sends t state (still_held c.loop-sent.invariant.only.rests held));
      only = only_then c.loop-sent.invariant.only c.in-Ok.ensures.only;
    }

pub returns-in-Err-clause-sends : goal.returns-in-Err-clause-sends
returns-in-Err-clause-sends g c t state held =
    let most : ℕ = c.min-most.result in
    let output = c.args.output.now in
    let below : c.loop-sent.sent < promised output.stretch = omega (arith, c.loop-sent-test.true, c.length_of-length.ensures) in
    first_failed (stretch_bytes state output.account output.stretch) c.loop-sent.sent
    (length (take most c.loop-sent.buffer)) (promised output.stretch)
    (whole_output (g.met.S.Disk.lawful t c.args.station.now) held output c.requires.there)
    (c.loop-sent.invariant.sends t state held) below c.in-Err.fault
    (c.in-Err.ensures.sends t state (still_held c.loop-sent.invariant.only.rests held))

pub returns-clause-sends : goal.returns-clause-sends
returns-clause-sends g c t state held =
    let output = c.args.output.now in
    let whole : c.loop-sent.sent ≡ promised output.stretch = omega (arith, c.loop-sent.invariant.within, c.loop-sent-test.false, c.length_of-length.ensures) in
    first_all (stretch_bytes state output.account output.stretch) c.loop-sent.sent (promised output.stretch)
    (whole_output (g.met.S.Disk.lawful t c.args.station.now) held output c.requires.there)
    (c.loop-sent.invariant.sends t state held) whole
