use Rattle.std.proofs.Common.{◌≡◌, ◌∙◌, ℕ, ◌++◌, append_assoc}
use Rattle.std.specs.Prelude.{codes, decimal}
use Rattle.std.proofs.lemmas.Result.{IfOk-weaker}
use Rattle.glacier_replies.proofs.messages.size_differs.Goals as goal

pub returns : goal.returns
returns c =
    IfOk-weaker c.format.result _ _ (λ text is. is ∙ formatted c.args.covered c.args.named) c.format.ensures.ok
  where
    formatted : (covered named : ℕ) → codes "The parts cover " ++ (decimal covered ++ (codes " bytes, not " ++ (decimal named ++ codes ".")))
        ≡ codes "The parts cover " ++ decimal covered ++ codes " bytes, not " ++ decimal named ++ codes "."
    formatted covered named = simp append_assoc
