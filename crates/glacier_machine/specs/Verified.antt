-- Who signed a message.
use Rattle.std.specs.Prelude.{◌≡◌, ℕ, List, Ok}
use Rattle.httparse.specs.Grammar.{RequestHead}
use Rattle.glacier_http.specs.Messages.{Message, good}
use Rattle.glacier_http.specs.View.{text_of}
use Rattle.glacier_machine.specs.SignedRequests.{signer_of}
use Rattle.glacier_machine.specs.declared.config.Config.{Config}

-- the message has a good head, and is verified at this reading of the clock as this account's
pub record IsSignedBy (config : Config) (message : Message) (reading : ℕ) (account : List ℕ) : Type 0 where
  pub head : RequestHead
  pub body : List ℕ
  pub message_is : message ≡ good head body
  pub signer : signer_of config (text_of head) body reading ≡ Ok account
