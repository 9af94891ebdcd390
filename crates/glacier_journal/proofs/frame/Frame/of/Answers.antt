use Rattle.std.proofs.Common.{rules, ◌≡◌}
use Rattle.glacier_journal.specs.Listed.{framed}
use Rattle.glacier_journal.proofs.FrameLemmas.{frames, framed_is}
use Rattle.glacier_journal.proofs.frame.Frame.of.Goals as goal

pub invariant_of-result : goal.invariant_of-result
invariant_of-result c =
    let is : c.push.new.self.items ≡ framed c.args.payload.now = search rules in
    frames c.push.new.self.items c.args.payload.now is c.requires

pub returns : goal.returns
returns c =
    let is : c.push.new.self.items ≡ framed c.args.payload.now = search rules in
    framed_is c.push.new.self.items c.args.payload.now is
