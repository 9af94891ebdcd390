use Rattle.std.proofs.Common.{rules, ◌≡◌, ◌-◌, ◌++◌, ◌∙◌, ◌≤◌, List, ℕ, take, drop, length, sym, ap}
use Rattle.glacier_host.proofs.HeldLemmas.{comes, reads_some, refilled}
use Rattle.glacier_host.proofs.held_bytes.HeldBytes.fill.Goals as goal

-- what was read stands behind what was held
pub returns-in-Ok-Some-clause-none_lost : goal.returns-in-Ok-Some-clause-none_lost
returns-in-Ok-Some-clause-none_lost g c =
    let items : List ℕ = c.deref_mut.result.now in
    let into : List ℕ = c.receive_now.new.into in
    let count : ℕ = c.in-Ok-Some.count in
    let held : c.args.self.now ≡ drop c.self.inside.start (take c.self.inside.end items) = search rules in
    let order : c.self.inside.start ≤ c.self.inside.end = search rules in
    let within : c.self.inside.end ≤ length items = search rules in
    let size : length into ≡ length items - c.self.inside.end = search rules in
    let few : count ≤ length into = search rules in
    let long : length items ≡ c.self.inside.buffer.len = search rules in
    let old = g.R.Read.remaining c.args.reader.now in
    let new = g.R.Read.remaining c.receive_now.new.reader in
    comes c.args.self.now (take count into) _ old new
    (refilled c.self.inside.start c.self.inside.end count c.self.inside.buffer.len c.self.inside.buffer.items items into order within size few long
    ∙ ap (λ (l : List ℕ). l ++ take count into) (sym held))
    (reads_some old new c.in-Ok-Some.field-0 count into c.in-Ok-Some.field-0-is c.in-Ok-Some.ensures.bytes)
