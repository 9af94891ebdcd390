use Rattle.std.proofs.Common.{rules}
use Rattle.glacier_base.proofs.StreamLemmas.{appends_next}
use Rattle.glacier_base.proofs.byte_streams.write_whole.Goals as goal

pub loop-preserved : goal.loop-preserved
loop-preserved g c = record {
  within = search rules;
  written = appends_next (g.W.Write.contents c.args.writer.now) (g.W.Write.contents c.loop.writer) (g.W.Write.contents c.write_once.new.writer) c.args.bytes.now c.loop.done c.in_ok-done.field-0 c.loop.invariant.written c.in_ok-done.ensures.bytes;
}
