use Rattle.std.proofs.Common.{◌≡◌, ℕ, ◌+◌, List, ◌++◌, true, false, ap, sym, ◌∙◌, drop, append_assoc}
use Rattle.glacier_http.specs.Fields.{is_named, values_of}
use Rattle.glacier_sigv4.specs.CanonicalFields.{next_value}
use Rattle.glacier_sigv4.proofs.ValueLemmas.{more_values, join_values, values_named, values_other}
use Rattle.glacier_sigv4.proofs.canonical_fields.put_values.Goals as goal
use Rattle.glacier_sigv4.proofs.canonical_fields.put_values.Goals.{then-named+in_ok-put_next, else-named}

pub loop-i-init : goal.loop-i-init
loop-i-init g c = ap (λ l. c.args.out.now ++ l) (join_values (values_of c.args.name.now (g.F.FieldSource.pairs c.args.fields.now)))

pub loop-i-preserved : goal.loop-i-preserved
loop-i-preserved g c =
    let fields = g.F.FieldSource.pairs c.args.fields.now in
    let name = c.args.name.now in
    let field : List ℕ × List ℕ = (c.at.result.0.now, c.at.result.1.now) in
    let left = values_of name (drop (c.loop-i.i + 1) fields) in
    elim c.if-named.branch [
      | then-named+in_ok-put_next w ↦
          let named : is_named name field ≡ true = sym c.is_same_text-named.ensures ∙ w.if-named.true in
          let items : c.if-named.out ≡ c.loop-i.out ++ next_value c.loop-i.comma field.1 = w.out-is ∙ w.in_ok-put_next.ensures in
          c.loop-i.invariant
          ∙ ap (λ vs. c.loop-i.out ++ more_values c.loop-i.comma vs) (values_named name fields c.loop-i.i field c.at.ensures named)
          ∙ sym (append_assoc c.loop-i.out (next_value c.loop-i.comma field.1) (more_values true left))
          ∙ ap (λ l. l ++ more_values true left) (sym items)
          ∙ ap (λ t. c.if-named.out ++ more_values t left) (sym w.comma-is)
      | else-named w ↦
          let other : is_named name field ≡ false = sym c.is_same_text-named.ensures ∙ w.if-named.false in
          c.loop-i.invariant
          ∙ ap (λ vs. c.loop-i.out ++ more_values c.loop-i.comma vs) (values_other name fields c.loop-i.i field c.at.ensures other)
          ∙ ap (λ v. v ++ more_values c.loop-i.comma left) (sym w.out-is)
          ∙ ap (λ t. c.if-named.out ++ more_values t left) (sym w.comma-is)
    ]
