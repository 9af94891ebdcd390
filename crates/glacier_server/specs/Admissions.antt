-- What is known of a message that is decided at its head, before its body is taken.
use Rattle.std.specs.Prelude.{◌≡◌, ℕ, ◌≤◌, true, List, [], None, Result, Ok, Err, IfOk, IfErr, length}
use Rattle.httparse.specs.Grammar.{RequestHead}
use Rattle.glacier_http.specs.Head.{Reads}
use Rattle.glacier_http.specs.Messages.{good as Good}
use Rattle.glacier_machine.specs.Actions.{stores_body}
use Rattle.glacier_machine.specs.Outcomes.{Outcome, one}
use Rattle.glacier_machine.specs.declared.action.Action.{Action}
use Rattle.glacier_machine.specs.declared.action.Request.{Request}
use Rattle.glacier_machine.specs.declared.config.Config.{Config}
use Rattle.glacier_replies.specs.Messages.{HasAsciiText}
use Rattle.glacier_upload.specs.Single.{upload_refusal}
use Rattle.glacier_vault.specs.Accounts.{account_in}
use Rattle.glacier_vault.specs.declared.refusal.Refusal.{Refusal}
use Rattle.glacier_server.specs.declared.admission.Admission.{Admission}
use Rattle.glacier_server.specs.declared.admission.Admission.TheVariants.{Refused, Taken}
use Rattle.glacier_server.specs.Exchange.{Standing}
use Rattle.glacier_server.specs.Machine.{IsPrintableIn}
use Rattle.glacier_server.specs.Uploads.{Upload, events_with, reply_with, upload_of}
use Rattle.glacier_store.specs.declared.store.Store.{Store}

-- an upload of so many bytes that nothing refuses before its body, to a store that time left: its body decides on the rest
-- of these outcomes
pub record AdmitsUpload (outcome : List ℕ → Outcome) (size : ℕ) (u : Upload) : Type 0 where
  pub time : (account_in u.store.accounts u.rules.account).last ≤ u.moment
  pub admitted : upload_refusal u.rules.quota (account_in u.store.accounts u.rules.account) u.ask ≡ None
  pub size_is : u.ask.size ≡ size
  pub outcome_is : (body : List ℕ) → length body ≡ size → outcome body
      ≡ record { reply = reply_with u body; output = None; passed = (outcome []).passed; done = events_with u body }

-- What is known of the outcomes by bodies of so many bytes, with the store that time left: each has this reply and no event
-- but of time, or they are those of an upload.
abbrev pub IsAdmission : (List ℕ → Outcome) → ℕ → Store → Admission → Type 0
IsAdmission outcome size store (Refused reply) = (body : List ℕ) → length body ≡ size
    → outcome body ≡ record { reply = reply; output = None; passed = (outcome []).passed; done = [] }
IsAdmission outcome size store (Taken rules m ask) = AdmitsUpload outcome size (upload_of store rules m ask [] 0)

-- what is known of the message whose good head stands there, with a body of so many bytes
abbrev pub AdmitsAt : Config → Standing → ℕ → ℕ → Store → Admission → Type 0
AdmitsAt config from reading size store admission = (h : RequestHead) (behind : List ℕ) → Reads from.unread h behind
    → IsAdmission (λ body. one config from.placed.state.accounts (Good h body) reading) size store admission

-- the reply can be printed where there is one
abbrev pub IsPrintableRefusal : ℕ → Admission → Type 0
IsPrintableRefusal room (Refused reply) = IsPrintableIn room reply
IsPrintableRefusal room (Taken rules m ask) = Unit {0}

-- what is asked for stores the message's body, or is refused in ASCII
pub record IsStored (asked : Result Action Refusal) : Type 0 where
  pub ascii : IfErr asked HasAsciiText
  pub stores : IfOk asked (λ action. stores_body action ≡ true)

-- the same of what was read of a message
abbrev pub IsStoredIn : Result Request Refusal → Type 0
IsStoredIn (Ok request) = IsStored request.asked
IsStoredIn (Err refusal) = HasAsciiText refusal
