use Rattle.std.proofs.Common.{rules, ◌≡◌, ◌∙◌, ◌+◌, ◌-◌, ◌++◌, arith, ap, sym, refl, List, ℕ, min, length, take, drop}
use Rattle.std.proofs.lemmas.List.{take_at}
use Rattle.glacier_disk.proofs.MemConnectionLemmas.{coming-next, taken-next}
use Rattle.glacier_disk.proofs.mem_connection.MemConnection.take.Goals as goal

pub returns-clause-takes : goal.returns-clause-takes
returns-clause-takes c =
    let connection = c.args.self.now in
    let xs = connection.input in
    let start = c.min-start.result in
    let n = c.min-count.result in
    let is : start ≡ min connection.taken (length xs) = search rules in
    let rest = drop n c.args.into.now in
    let m : ℕ = start + n - start in
    let exact : m ≡ n = omega arith in
    let copied = c.copy_from_slice.ensures.after ∙ ap (λ (l : List ℕ). take m (drop start l)) (c.bytes-input.ensures) ∙ ap (λ (k : ℕ). take k (drop start xs)) exact in
    let long : length c.copy_from_slice.new.self ≡ n = search rules in
    let bytes = take_at c.copy_from_slice.new.self rest n long ∙ copied in
    record {
      coming = coming-next xs connection.taken start n is ∙ ap (λ (l : List ℕ). l ++ drop (start + n) xs) (sym bytes);
      taken = taken-next xs connection.taken start n is ∙ ap (λ (l : List ℕ). take connection.taken xs ++ l) (sym bytes);
      sent = refl;
      waits = c.one_more_wait-self.ensures;
      receives_failed = refl;
      sends_failed = refl;
    }
