-- What is answered with a stretch of an archive: a reply with an output.
use Rattle.std.proofs.Common.{◌≡◌, List, ℕ, Option, Some, None, ap, ◌∙◌}
use Rattle.std.specs.Prelude.{IfSome, option_map}
use Rattle.glacier_machine.specs.declared.action.Answer.{Answer}
use Rattle.glacier_machine.specs.declared.action.Output.{Output}
use Rattle.glacier_machine.specs.declared.action.Stretch.{Stretch}
use Rattle.glacier_store.specs.Outputs.{HasStretch}
use Rattle.glacier_vault.specs.Accounts.{Accounts}
use Rattle.glacier_server.specs.declared.answered.Answered.{Answered}
use Rattle.glacier_server.specs.Outputs.{IsWhole}

module _ (account : List ℕ) where
  abbrev output_in : Option Stretch → Option Output
  output_in stretch = option_map (λ stretch. record { account = account; stretch = stretch }) stretch

  abbrev answered_with : Answer → Answered
  answered_with answer = record { reply = answer.reply; output = output_in answer.stretch }

  pub answered_is : (answer made : Answer) (output : Option Output) → output ≡ output_in answer.stretch → answer ≡ made
      → ◌≡◌ {A = Answered} (record { reply = answer.reply; output = output }) (answered_with made)
  answered_is answer made output is same =
      let here : ◌≡◌ {A = Answered} (record { reply = answer.reply; output = output }) (answered_with answer) =
      ap (λ (o : Option Output). let a : Answered = record { reply = answer.reply; output = o } in a) is in
      here ∙ ap answered_with same

  pub is_whole : (accounts : Accounts) (stretch : Option Stretch) (output : Option Output) → output ≡ output_in stretch
      → IfSome stretch (HasStretch accounts account) → IsWhole accounts output
  is_whole accounts None output is has = rw is tt
  is_whole accounts (Some stretch) output is has = rw is has
