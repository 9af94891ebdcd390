use Rattle.std.specs.Prelude.{Some, None}
use Rattle.glacier_replies.proofs.FieldLemmas.{output_is_short}
use Rattle.glacier_machine.proofs.outputs.range_is_short.Goals as goal

pub returns : goal.returns
returns c =
    output_is_short (Some (c.args.first, c.args.last)) c.args.length None (c.ranges.first.fits, c.ranges.last.fits) c.ranges.length.fits tt
