use Rattle.std.proofs.Common.{rules}
use Rattle.glacier_base.proofs.StreamLemmas.{appends_next}
use Rattle.glacier_host.proofs.turn.send.Goals as goal

pub loop-preserved : goal.loop-preserved
loop-preserved g c = record {
  within = search rules;
  held = search rules;
  course = search rules;
  written = appends_next (g.R.Stream.Write.contents c.args.connection.now.stream) (g.R.Stream.Write.contents c.loop.connection.stream) (g.R.Stream.Write.contents c.send_once.new.connection.stream) c.args.bytes.now c.loop.done c.in_ok-done.field-0 c.loop.invariant.written c.in_ok-done.ensures.bytes;
}
