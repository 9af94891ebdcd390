use Rattle.std.specs.Prelude.{Some, None}
use Rattle.glacier_replies.proofs.FieldLemmas.{output_is_short}
use Rattle.glacier_replies.proofs.laws.output_fields_are_short.Goals as goal

pub returns-clause-whole : goal.returns-clause-whole
returns-clause-whole c = output_is_short None c.args.size (Some c.args.tree.now) tt c.ranges.size.fits c.digits_are_few.ensures

pub returns-clause-part : goal.returns-clause-part
returns-clause-part c =
    output_is_short (Some (c.args.first, c.args.last)) c.args.size (Some c.args.tree.now)
    (c.ranges.first.fits, c.ranges.last.fits) c.ranges.size.fits c.digits_are_few.ensures

pub returns-clause-bare : goal.returns-clause-bare
returns-clause-bare c =
    output_is_short (Some (c.args.first, c.args.last)) c.args.size None (c.ranges.first.fits, c.ranges.last.fits) c.ranges.size.fits tt
