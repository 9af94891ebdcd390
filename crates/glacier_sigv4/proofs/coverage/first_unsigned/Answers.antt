use Rattle.std.proofs.Common.{ℕ, ◌+◌, List, [], ◌∷◌, ap, sym, ◌∙◌, drop}
use Rattle.glacier_sigv4.specs.Authorization.{names_in}
use Rattle.glacier_sigv4.specs.Coverage.{least_of, unsigned_in}
use Rattle.glacier_sigv4.proofs.CoverageLemmas.{least_unsigned, least_other}
use Rattle.glacier_sigv4.proofs.coverage.first_unsigned.Goals as goal
use Rattle.glacier_sigv4.proofs.coverage.first_unsigned.Goals.{then-unsigned+in_ok-lowered, else-unsigned}

pub loop-i-preserved : goal.loop-i-preserved
loop-i-preserved c =
    let fields = c.args.head.now.fields in
    let names = names_in c.args.names.now in
    let field : List ℕ × List ℕ = (c.field.result.0.now, c.field.result.1.now) in
    let left = unsigned_in names (drop (c.loop-i.i + 1) fields) in
    elim c.if-unsigned.branch [
      | then-unsigned+in_ok-lowered w ↦
          c.loop-i.invariant
          ∙ least_unsigned names fields c.loop-i.i field c.field.ensures c.loop-i.first (sym c.is_unsigned-unsigned.ensures ∙ w.if-unsigned.true)
          ∙ ap (λ name. least_of (least_of c.loop-i.first (name ∷ [])) left) (sym w.in_ok-lowered.ensures)
          ∙ ap (λ f. least_of f left) (sym (w.first-is ∙ w.least-first.ensures))
      | else-unsigned w ↦
          c.loop-i.invariant
          ∙ least_other names fields c.loop-i.i field c.field.ensures c.loop-i.first (sym c.is_unsigned-unsigned.ensures ∙ w.if-unsigned.false)
          ∙ ap (λ f. least_of f left) (sym w.first-is)
    ]
