-- Whether the body of an upload is taken is decided by its head, whatever the body is.
use Rattle.std.proofs.Common.{◌≡◌, ◌∙◌, ℕ, ◌+◌, ◌≤◌, Bool, true, false, cond, List, [], length, Option, Some, None, Result, Ok, Err, refl, sym, ap, subst}
use Rattle.std.specs.Prelude.{IfOk, IfSome, nat_eq, nat_lt, not, option_map}
use Rattle.std.specs.FinMap as map
use Rattle.glacier_http.specs.View.{HeadText}
use Rattle.glacier_http.specs.declared.reply.Reply.{Reply}
use Rattle.glacier_machine.specs.AccountSteps.{admission_refusal}
use Rattle.glacier_machine.specs.Actions.{HasOrder, HasSize, stores_body}
use Rattle.glacier_machine.specs.ArchiveSteps.{archive_step, found_in, upload_step}
use Rattle.glacier_machine.specs.Asks.{is_bulk_head}
use Rattle.glacier_machine.specs.Outcomes.{Outcome, events_of, request_outcome, step_outcome}
use Rattle.glacier_machine.specs.SignedRequests.{RefusesInAscii, request_in}
use Rattle.glacier_machine.specs.Steps.{Step, by_row, only_replies, storing}
use Rattle.glacier_machine.specs.declared.action.Action.{Action}
use Rattle.glacier_machine.specs.declared.action.Action.TheVariants.{CreateVault, DescribeVault, DeleteVault, Upload, DeleteArchive, BeginJob, DescribeJob, JobOutput}
use Rattle.glacier_machine.specs.declared.action.Request.{Request}
use Rattle.glacier_machine.specs.declared.action.Stretch.{Stretch}
use Rattle.glacier_machine.specs.declared.config.Config.{Config}
use Rattle.glacier_machine.proofs.BulkLemmas.{bulk_head_passed}
use Rattle.glacier_replies.specs.Messages.{HasAsciiText}
use Rattle.glacier_replies.specs.Replies.{refused, uploaded}
use Rattle.glacier_store.specs.declared.store.Store.{Store}
use Rattle.glacier_store.proofs.UploadLemmas.{archive_is}
use Rattle.glacier_upload.specs.Bodies.{room_refusal}
use Rattle.glacier_upload.specs.Single.{upload_refusal, upload_row}
use Rattle.glacier_upload.specs.declared.asks.UploadAsk.{UploadAsk}
use Rattle.glacier_upload.specs.declared.single.TheConstants.{MOST_BYTES}
use Rattle.glacier_vault.specs.Account.{counter_end}
use Rattle.glacier_vault.specs.Accounts.{Accounts, AccountEvent, account_in}
use Rattle.glacier_vault.specs.Rows.{Row, draw_refusal}
use Rattle.glacier_vault.specs.Totals.{need, used_in}
use Rattle.glacier_vault.specs.declared.event.Change.{Change}
use Rattle.glacier_vault.specs.declared.refusal.Refusal.{Refusal}
use Rattle.glacier_vault.specs.declared.refusal.Refusal.TheVariants.{CounterEnd, Empty, NoRoom, NoVault, TooLarge}
use Rattle.glacier_vault.specs.declared.rules.Rules.{Rules}
use Rattle.glacier_vault.specs.declared.state.AccountState.{AccountState}
use Rattle.glacier_server.specs.Admissions.{AdmitsUpload, IsAdmission, IsStoredIn}
use Rattle.glacier_server.specs.declared.admission.Admission.{Admission}
use Rattle.glacier_server.specs.declared.admission.Admission.TheVariants as admission
use Rattle.glacier_server.specs.Machine.{asked_outcome, told_head}
use Rattle.glacier_server.specs.Uploads.{upload_of}

-- an upload is refused in ASCII
module _ (quota : ℕ) (before : AccountState) (ask : UploadAsk) where
  abbrev by_room : Bool → Bool → Option Refusal
  by_room full last = cond full (Some (NoRoom (used_in before.vaults) (need ask.size) quota)) (cond last (Some CounterEnd) None)

  abbrev by_size : Bool → Bool → Bool → Option Refusal
  by_size there empty large = cond (not there) (Some (NoVault ask.vault)) (cond empty (Some Empty)
      (cond large (Some (TooLarge ask.size MOST_BYTES)) (room_refusal quota before ask.size)))

  room_ascii : (full last : Bool) → IfSome (by_room full last) HasAsciiText
  room_ascii true last = tt
  room_ascii false true = tt
  room_ascii false false = tt

  size_ascii : (there empty large : Bool) → IfSome (by_size there empty large) HasAsciiText
  size_ascii false empty large = tt
  size_ascii true true large = tt
  size_ascii true false true = tt
  size_ascii true false false =
      room_ascii (nat_lt quota (used_in before.vaults + need ask.size)) (nat_eq before.counter counter_end)

  upload_ascii : IfSome (upload_refusal quota before ask) HasAsciiText
  upload_ascii = size_ascii (map.contains_key before.vaults ask.vault) (nat_lt ask.size 1) (nat_lt MOST_BYTES ask.size)

pub refused_ascii : (rules : Rules) (before : AccountState) (action : Action) (refusal : Refusal)
    → Some refusal ≡ admission_refusal rules before action → HasAsciiText refusal
refused_ascii rules before (Upload ask) refusal is =
    let here : IfSome (Some refusal) HasAsciiText =
    subst (λ (r : Option Refusal). IfSome r HasAsciiText) (sym is) (upload_ascii rules.quota before ask) in here
refused_ascii rules before (CreateVault name) refusal is = absurd cc
refused_ascii rules before (DescribeVault name) refusal is = absurd cc
refused_ascii rules before (DeleteVault name) refusal is = absurd cc
refused_ascii rules before (DeleteArchive name archive) refusal is = absurd cc
refused_ascii rules before (BeginJob ask) refusal is = absurd cc
refused_ascii rules before (DescribeJob name job) refusal is = absurd cc
refused_ascii rules before (JobOutput name job range) refusal is = absurd cc

-- the outcome with other events of time
abbrev pub with_passed : List AccountEvent → Outcome → Outcome
with_passed passed o = record { reply = o.reply; output = o.output; passed = passed; done = o.done }

-- what is answered to a refusal, behind these events
abbrev refused_with : Reply → List AccountEvent → Outcome
refused_with reply passed = record { reply = reply; output = None; passed = passed; done = [] }

module _ (rules : Rules) (m : ℕ) (store : Store) (n : ℕ) where
  abbrev before : AccountState
  before = account_in store.accounts rules.account

  -- an upload that is refused before its body, whatever that is
  abbrev stepped : UploadAsk → List ℕ → Option Refusal → Step
  stepped ask body r = elim r as (λ _. Step) [
    | Some refusal ↦ only_replies before (refused refusal)
    | None ↦ storing body (upload_step rules m ask (found_in body) before)
  ]

  abbrev outcome_of : Action → List ℕ → Outcome
  outcome_of action body = asked_outcome rules m (Ok action) body store.accounts

  pub admits_refused : (action : Action) (refusal : Refusal) (reply : Reply) → Some refusal ≡ admission_refusal rules before action
      → reply ≡ refused refusal → IsAdmission (outcome_of action) n store (admission.Refused reply)
  admits_refused (Upload ask) refusal reply is same body size =
      ap (λ (r : Option Refusal). step_outcome rules.account m [] (stepped ask body r)) (sym is)
      ∙ ap (λ (r : Reply). refused_with r []) (sym same)
  admits_refused (CreateVault name) refusal reply is same body size = absurd cc
  admits_refused (DescribeVault name) refusal reply is same body size = absurd cc
  admits_refused (DeleteVault name) refusal reply is same body size = absurd cc
  admits_refused (DeleteArchive name archive) refusal reply is same body size = absurd cc
  admits_refused (BeginJob ask) refusal reply is same body size = absurd cc
  admits_refused (DescribeJob name job) refusal reply is same body size = absurd cc
  admits_refused (JobOutput name job range) refusal reply is same body size = absurd cc

  -- one that isn't has no output
  row_has_none : (row : Row Change) (reply : Reply) → ◌≡◌ {A = Option Stretch} (by_row before row reply).answer.stretch None
  row_has_none (Ok done) reply = refl
  row_has_none (Err refusal) reply = refl

  abbrev outcome_with : Step → Option Stretch → Outcome
  outcome_with step stretch = record {
    reply = step.answer.reply;
    output = option_map (λ stretch. record { account = rules.account; stretch = stretch }) stretch;
    passed = [];
    done = events_of rules.account m step.answer.change.event step.stored;
  }

  pub admits_upload : (ask : UploadAsk) → before.last ≤ m → None ≡ admission_refusal rules before (Upload ask) → ask.size ≡ n
      → IsAdmission (outcome_of (Upload ask)) n store (admission.Taken rules m ask)
  admits_upload ask time is size = record {
    time = time;
    admitted = sym is;
    size_is = size;
    outcome_is = λ body same. ap (outcome_with (archive_step rules m ask body before))
        (ap (λ (s : Step). s.answer.stretch) (archive_is rules m ask body before (sym is))
        ∙ row_has_none (upload_row before m ask (found_in body)) (uploaded rules ask.vault before.counter ask.tree));
  }

-- what was refused already
pub admits_refusal : (rules : Rules) (m n : ℕ) (store : Store) (refusal : Refusal) (reply : Reply) → reply ≡ refused refusal
    → IsAdmission (λ body. asked_outcome rules m (Err refusal) body store.accounts) n store (admission.Refused reply)
admits_refusal rules m n store refusal reply same body size = ap (λ (r : Reply). refused_with r []) (sym same)

pub admits_unread : (config : Config) (accounts : Accounts) (reading n : ℕ) (store : Store) (refusal : Refusal) (reply : Reply)
    → reply ≡ refused refusal
    → IsAdmission (λ body. request_outcome config accounts (Err refusal) body reading) n store (admission.Refused reply)
admits_unread config accounts reading n store refusal reply same body size = ap (λ (r : Reply). refused_with r []) (sym same)

-- what holds of outcomes does so behind other events of time
pub admission_behind : (was is : List ℕ → Outcome) (n : ℕ) (store : Store) (a : Admission)
    → ((body : List ℕ) → length body ≡ n → is body ≡ with_passed (is []).passed (was body))
    → IsAdmission was n store a → IsAdmission is n store a
admission_behind was is n store (admission.Refused reply) behind admits =
    λ body size. behind body size ∙ ap (with_passed (is []).passed) (admits body size)
admission_behind was is n store (admission.Taken rules m ask) behind admits = record {
  time = admits.time;
  admitted = admits.admitted;
  size_is = admits.size_is;
  outcome_is = λ body size. behind body size ∙ ap (with_passed (is []).passed) (admits.outcome_is body size);
}

-- what was read stores its body, or is refused in ASCII
pub is_stored_in : (read : Result Request Refusal) → RefusesInAscii read
    → IfOk read (λ request. IfOk request.asked (λ action. stores_body action ≡ true)) → IsStoredIn read
is_stored_in (Ok request) ascii stores = record { ascii = ascii; stores = stores }
is_stored_in (Err refusal) ascii stores = ascii

-- what time does for what was read is told by its head
same_passed : (config : Config) (accounts : Accounts) (read : Result Request Refusal) (a b : List ℕ) (reading : ℕ)
    → (request_outcome config accounts read a reading).passed ≡ (request_outcome config accounts read b reading).passed
same_passed config accounts (Ok request) a b reading = refl
same_passed config accounts (Err refusal) a b reading = refl

module _ (config : Config) (accounts : Accounts) (head : HeadText) (reading n : ℕ) (read : Result Request Refusal)
    (bulk : is_bulk_head head ≡ true) (asks : (body : List ℕ) → length body ≡ n → read ≡ request_in config head body reading) where
  told_is : (body : List ℕ) → length body ≡ n
      → told_head config accounts head body reading ≡ request_outcome config accounts read body reading
  told_is body size = ap (λ (r : Result Request Refusal). request_outcome config accounts r body reading) (sym (asks body size))

  pub told_behind : (body : List ℕ) → length body ≡ n → told_head config accounts head body reading
      ≡ with_passed (told_head config accounts head [] reading).passed (request_outcome config accounts read body reading)
  told_behind body size =
      told_is body size
      ∙ ap (λ (p : List AccountEvent). with_passed p (request_outcome config accounts read body reading))
      (ap (λ (o : Outcome). o.passed) (sym (told_is body size)) ∙ bulk_head_passed config accounts head body [] reading bulk)

  pub head_passed : (body : List ℕ) → length body ≡ n
      → (request_outcome config accounts read [] reading).passed ≡ (told_head config accounts head [] reading).passed
  head_passed body size =
      same_passed config accounts read [] body reading
      ∙ ap (λ (o : Outcome). o.passed) (sym (told_is body size))
      ∙ bulk_head_passed config accounts head body [] reading bulk
