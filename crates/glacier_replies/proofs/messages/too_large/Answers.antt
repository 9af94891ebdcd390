use Rattle.std.proofs.Common.{◌≡◌, ◌∙◌, ℕ, ◌++◌, append_assoc}
use Rattle.std.specs.Prelude.{codes, decimal}
use Rattle.std.proofs.lemmas.Result.{IfOk-weaker}
use Rattle.glacier_replies.proofs.messages.too_large.Goals as goal

pub returns : goal.returns
returns c =
    IfOk-weaker c.format.result _ _ (λ text is. is ∙ formatted c.args.size c.args.most) c.format.ensures.ok
  where
    formatted : (size most : ℕ) → codes "The archive has " ++ (decimal size ++ (codes " bytes, more than " ++ (decimal most ++ codes ".")))
        ≡ codes "The archive has " ++ decimal size ++ codes " bytes, more than " ++ decimal most ++ codes "."
    formatted size most = simp append_assoc
