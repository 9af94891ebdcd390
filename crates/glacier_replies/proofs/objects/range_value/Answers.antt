use Rattle.std.proofs.Common.{◌≡◌, ◌∙◌, ap, ℕ, ◌++◌, append_assoc}
use Rattle.std.specs.Prelude.{codes, decimal}
use Rattle.std.proofs.lemmas.Result.{IfOk-weaker}
use Rattle.serde_json.specs.Data.{string}
use Rattle.glacier_replies.proofs.objects.range_value.Goals as goal

pub returns : goal.returns
returns c =
    IfOk-weaker c.try_from_str.result _ _ (λ v is. is ∙ ap string (formatted c.args.first c.args.last))
    (rw (c.deref.ensures, c.in_ok-text.ensures.ok) at c.try_from_str.ensures)
  where
    formatted : (first last : ℕ) → decimal first ++ (codes "-" ++ decimal last) ≡ decimal first ++ codes "-" ++ decimal last
    formatted first last = simp append_assoc
