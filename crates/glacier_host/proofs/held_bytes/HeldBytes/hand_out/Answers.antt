use Rattle.std.proofs.Common.{rules, ◌≡◌, ◌-◌, ◌∙◌, ◌≤◌, ℕ, take, drop, ap}
use Rattle.glacier_host.proofs.HeldLemmas.{handed, stretch}
use Rattle.glacier_host.proofs.held_bytes.HeldBytes.hand_out.Goals as goal

-- the bytes that are copied are the first ones that are held
pub returns-clause-once : goal.returns-clause-once
returns-clause-once c =
    let start : ℕ = c.self.inside.start in
    let end : ℕ = c.self.inside.end in
    let count : ℕ = c.copy_front-count.result in
    let order : start ≤ end = search rules in
    let first : take count c.copy_front-count.new.into ≡ take count (take (end - start) (drop start c.self.inside.buffer.items)) = search rules in
    let held : c.args.self.now ≡ drop start (take end c.self.inside.buffer.items) = search rules in
    held ∙ handed (take end c.self.inside.buffer.items) c.copy_front-count.new.into start count
    (first ∙ ap (take count) (stretch start end c.self.inside.buffer.items order))
