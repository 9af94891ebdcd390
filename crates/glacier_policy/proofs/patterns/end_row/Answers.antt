use Rattle.std.proofs.Common.{false, true, ◌≢◌, refl, arith, replicate, get_or-set_other}
use Rattle.std.proofs.lemmas.Grind.{get_or-set_at}
use Rattle.std.proofs.lemmas.List.{get_or-replicate, length-replicate}
use Rattle.glacier_policy.specs.declared.patterns.TheConstants.{PLACES}
use Rattle.glacier_policy.proofs.patterns.end_row.Goals as goal

pub returns-clause-last : goal.returns-clause-last
returns-clause-last c = get_or-set_at (replicate PLACES false) c.args.size c.args.size true false refl (omega (arith, length-replicate PLACES false, c.requires))

pub returns-clause-each : goal.returns-clause-each
returns-clause-each c = λ k h. let other : k ≢ c.args.size = omega arith in rw get_or-set_other (get_or-replicate PLACES k false false (omega arith))
