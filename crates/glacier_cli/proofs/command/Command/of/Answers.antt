use Rattle.std.proofs.Common.{map}
use Rattle.std.specs.Prelude.{string_bytes}
use Rattle.glacier_cli.proofs.BoundLemmas.{in_bounds}
use Rattle.glacier_cli.proofs.command.Command.of.Goals as goal

pub returns-in-len1-clause-bounds : goal.returns-in-len1-clause-bounds
returns-in-len1-clause-bounds c = in_bounds (map string_bytes c.args.words.now)

pub returns-in-len2-clause-bounds : goal.returns-in-len2-clause-bounds
returns-in-len2-clause-bounds c = in_bounds (map string_bytes c.args.words.now)

pub returns-in-len3-up-clause-bounds : goal.returns-in-len3-up-clause-bounds
returns-in-len3-up-clause-bounds c = in_bounds (map string_bytes c.args.words.now)
