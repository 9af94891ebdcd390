use Rattle.std.proofs.Common.{◌≡◌, ◌∙◌, ℕ, ◌++◌, append_assoc}
use Rattle.std.specs.Prelude.{codes, decimal}
use Rattle.std.proofs.lemmas.Result.{IfOk-weaker}
use Rattle.glacier_replies.proofs.messages.no_room.Goals as goal

pub returns : goal.returns
returns c =
    IfOk-weaker c.format.result _ _ (λ text is. is ∙ formatted c.args.used c.args.need c.args.quota) c.format.ensures.ok
  where
    formatted : (used need quota : ℕ) → codes "Used " ++ (decimal used ++ (codes ", needed " ++ (decimal need ++ (codes ", quota " ++ (decimal quota ++ codes ".")))))
        ≡ codes "Used " ++ decimal used ++ codes ", needed " ++ decimal need ++ codes ", quota " ++ decimal quota ++ codes "."
    formatted used need quota = simp append_assoc
