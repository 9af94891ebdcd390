use Rattle.std.proofs.Common.{◌≡◌, ◌∙◌, ℕ, ◌++◌, append_assoc}
use Rattle.std.specs.Prelude.{codes, decimal}
use Rattle.std.proofs.lemmas.Result.{IfOk-weaker}
use Rattle.glacier_replies.proofs.fields.content_range.Goals as goal

pub returns : goal.returns
returns c =
    IfOk-weaker c.format.result _ _ (λ text is. is ∙ formatted c.args.range.0 c.args.range.1 c.args.length) c.format.ensures.ok
  where
    formatted : (first last size : ℕ) → codes "bytes " ++ (decimal first ++ (codes "-" ++ (decimal last ++ (codes "/" ++ decimal size))))
        ≡ codes "bytes " ++ decimal first ++ codes "-" ++ decimal last ++ codes "/" ++ decimal size
    formatted first last size = simp append_assoc
