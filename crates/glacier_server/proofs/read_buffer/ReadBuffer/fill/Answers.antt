use Rattle.std.proofs.Common.{rules, ◌≡◌, ℕ, ◌+◌, ◌-◌, ◌∙◌, List, length, take, drop, arith, ap, ◌++◌}
use Rattle.glacier_server.proofs.ListLemmas.{filled}
use Rattle.glacier_server.proofs.TransferLemmas.{behind_once}
use Rattle.glacier_server.proofs.read_buffer.ReadBuffer.fill.Goals as goal

pub returns-in-Ok-clause-takes : goal.returns-in-Ok-clause-takes
returns-in-Ok-clause-takes g c t =
    let kept : ℕ = c.self.inside.end - c.self.inside.start in
    let size : length c.refill.new.buffer ≡ c.self.inside.buffer.len = search rules in
    let same : take kept c.refill.new.buffer ≡ c.args.self.now = grind
    (arith, c.refill.ensures.kept, c.deref_mut.ensures.value, c.self.view_is) in
    behind_once c.args.self.now (filled kept c.in-Ok.count c.self.inside.buffer.len c.self.inside.buffer.items c.refill.new.buffer c.args.self.now size (omega (arith, size, c.in-Ok.ensures.within)) same)
    (c.in-Ok.ensures.takes t)

pub returns-in-Err-clause-takes : goal.returns-in-Err-clause-takes
returns-in-Err-clause-takes g c t =
    let kept : ℕ = c.self.inside.end - c.self.inside.start in
    let size : length c.refill.new.buffer ≡ c.self.inside.buffer.len = search rules in
    let same : take kept c.refill.new.buffer ≡ c.args.self.now = grind
    (arith, c.refill.ensures.kept, c.deref_mut.ensures.value, c.self.view_is) in
    let all : List ℕ = take c.self.inside.buffer.len (c.refill.new.buffer ++ drop
    (length c.refill.new.buffer) c.self.inside.buffer.items) in
    let none : kept ≡ kept + 0 = omega arith in
    behind_once c.args.self.now
    (ap (λ (n : ℕ). take n all) none ∙ filled kept 0 c.self.inside.buffer.len c.self.inside.buffer.items c.refill.new.buffer c.args.self.now size (search rules) same) (c.in-Err.ensures.takes t)
