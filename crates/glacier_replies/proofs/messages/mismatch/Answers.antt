use Rattle.std.proofs.Common.{◌≡◌, ◌∙◌, ℕ, List, ◌++◌, append_assoc}
use Rattle.std.specs.Prelude.{codes}
use Rattle.std.proofs.lemmas.Result.{IfOk-weaker}
use Rattle.hex.specs.Hex.{encode_lower}
use Rattle.glacier_replies.proofs.AsciiTexts.{hex_is_ascii}
use Rattle.glacier_replies.proofs.messages.mismatch.Goals as goal

pub ascii_text-found-requires : goal.ascii_text-found-requires
ascii_text-found-requires c = rw c.text-found.ensures.text (hex_is_ascii c.args.found.now)

pub ascii_text-said-requires : goal.ascii_text-said-requires
ascii_text-said-requires c = rw c.text-said.ensures.text (hex_is_ascii c.args.said.now)

pub returns : goal.returns
returns c =
    IfOk-weaker c.format.result _ _
    (λ text is. is ∙ formatted c.args.front.now (encode_lower c.args.found.now) (encode_lower c.args.said.now))
    (rw (c.ascii_text-found.ensures, c.text-found.ensures.text, c.ascii_text-said.ensures, c.text-said.ensures.text)
    at c.format.ensures.ok)
  where
    formatted : (front found said : List ℕ) → front ++ (found ++ (codes ", not " ++ (said ++ codes ".")))
        ≡ front ++ found ++ codes ", not " ++ said ++ codes "."
    formatted front found said = simp append_assoc
