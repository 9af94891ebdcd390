use Rattle.std.proofs.Common.{◌≡◌, ◌+◌, ◌≤◌, ◌∙◌, ℕ, List, IsTrue, drop, length, length-append, length-drop, subst, arith, rules}
use Rattle.std.proofs.lemmas.List.{length-take}
use Rattle.glacier_disk.specs.RawFiles.{ReadsAt}
use Rattle.glacier_disk.proofs.FillLemmas.{piece_more}
use Rattle.glacier_disk.proofs.area_file.AreaFile.read.Goals as goal

pub loop-preserved : goal.loop-preserved
loop-preserved g c =
    let into = c.loop.into in
    let piece = c.read_some.new.into in
    let at = c.args.at in
    let done = c.loop.done in
    let count = c.in_ok-count.count in
    let file = g.F.RawFile.content c.args.self.now.file in
    let held = c.loop.invariant in
    let place : c.in-Some.place ≡ at + done = search rules in
    let read : IsTrue g.F.RawFile.tells → ReadsAt file (at + done) piece count = λ tells.
    subst (λ (p : ℕ). ReadsAt file p piece count) place
    (subst (λ (xs : List ℕ). ReadsAt xs c.in-Some.place piece count) (held.same tells) (c.in_ok-count.ensures.bytes tells)) in
    let fits : count ≤ length piece = omega (arith, c.in_ok-count.ensures.bound, c.read_some.auto.into) in
    record {
      within = omega (arith, fits, length-append {A = ℕ}, length-take {A = ℕ});
      same = λ tells. c.in_ok-count.ensures.same tells ∙ held.same tells;
      inside = λ tells.
          let inside : count ≤ length (drop (at + done) file) = (read tells).within in
          omega (arith, held.inside tells, inside, length-drop {A = ℕ});
      bytes = λ tells. piece_more file into piece _ at done count held.within (held.inside tells) (held.bytes tells) fits (read tells).bytes;
    }
